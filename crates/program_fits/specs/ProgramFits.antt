-- Document 01, "Whole memories" (here: well-formed): what the bounded machine asks of a program is met by the program that well-formed program words p and
-- literal bytes l hold, and by what remains of it from any place on. Assumes nothing.
use Rattle.std.specs.Prelude.{List, ℕ, ◌≤◌}
use Rattle.tables.specs.Fields.{instructions}
use Rattle.program_form.specs.WellFormed.{WellFormed}
use Rattle.trees.specs.Held.{program_held, remaining}
use Rattle.wellformed.specs.WellFormed.{limits}
use Rattle.bounded.specs.Fits.{CodeFits, ProgramFits}
use Rattle.word_store.specs.Form.{LimitsOf}

pub record FitsHeld (p l : List ℕ) : Type 0 where
  pub program : ProgramFits (program_held p l)
  pub remaining : (i : ℕ) → i ≤ instructions p → CodeFits (program_held p l) (remaining p i)
  pub limits : LimitsOf (limits p) (program_held p l)

abbrev pub WellFormedFits : Type 0
WellFormedFits = (p l : List ℕ) → WellFormed p l → FitsHeld p l
