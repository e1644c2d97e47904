-- Document 01, "The calls": load leaves whole memories (here: well-formed), for program words and literal bytes. Assumes nothing.
use Rattle.std.specs.Prelude.{ℕ, ◌≤◌}
use Rattle.framed.specs.Program.{Program}
use Rattle.program_form.specs.WellFormed.{WellFormed}
use Rattle.shapes.specs.Shape.{Shaped}
use Rattle.emission.specs.Emit.{program_words, literal_bytes}

abbrev pub LoadWhole : Type 0
LoadWhole = (q : Program) (F T : ℕ) → Shaped q → 3 ≤ F → F ≤ 256 → T ≤ 256 → WellFormed (program_words q F T) (literal_bytes q)
