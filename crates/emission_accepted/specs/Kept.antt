-- Document 01, "The calls": of a source that load accepts, the program words and literal bytes are whole (here: well-formed) and hold its program, F and T.
-- Assumes nothing.
use Rattle.std.specs.Prelude.{◌≡◌, List, ℕ}
use Rattle.std.proofs.Math.Option.{some}
use Rattle.framed.specs.Meaning.{Lengths, refusal}
use Rattle.framed.specs.Program.{Program, program}
use Rattle.program_form.specs.WellFormed.{WellFormed}
use Rattle.emission.specs.Emit.{program_words, literal_bytes}
use Rattle.emission_held.specs.Decodes.{Decodes}

pub record Kept (q : Program) (F T : ℕ) : Type 0 where
  pub whole : WellFormed (program_words q F T) (literal_bytes q)
  pub decodes : Decodes q F T

abbrev pub AcceptedKept : Type 0
AcceptedKept = (m : Lengths) (source : List ℕ) (F T : ℕ) (q : Program) → refusal m source F T ≡ 0 → program source ≡ some q → Kept q F T
