-- Document 01, "Limits and paths" and the table's numbers 1 to 12: the program of a source that load accepts is shaped. Assumes nothing.
use Rattle.std.specs.Prelude.{◌≡◌, List, ℕ}
use Rattle.std.proofs.Math.Option.{some}
use Rattle.framed.specs.Meaning.{Lengths, refusal}
use Rattle.framed.specs.Program.{Program, program}
use Rattle.shapes.specs.Shape.{Shaped}

abbrev pub AcceptedShaped : Type 0
AcceptedShaped = (m : Lengths) (source : List ℕ) (F T : ℕ) (q : Program) → refusal m source F T ≡ 0 → program source ≡ some q → Shaped q
