-- Document 01, "Whole memories" (here: well-formed): what code that reads an expression, the slots from a place on, an instruction, or a code asks of program words p,
-- and the number that falls as it goes into parts. Assumes nothing.
use Rattle.std.specs.Prelude.{◌≡◌, List, ℕ, zero, suc, ◌+◌, ◌-◌, ◌*◌, ◌<◌, leb}
use Rattle.words.specs.Words.{pick}
use Rattle.tables.specs.Fields.{expressions, instructions, codes, code_first}
use Rattle.program_form.specs.WellFormed.{WellFormed}
use Rattle.program_form.specs.Sound.{SlotPlace}

pub record AtExpression (p : List ℕ) (x : ℕ) : Type 0 where
  pub literal_bytes : List ℕ
  pub program : WellFormed p literal_bytes
  pub there : x < expressions p

pub record AtSlots (p : List ℕ) (z : ℕ) : Type 0 where
  pub literal_bytes : List ℕ
  pub program : WellFormed p literal_bytes
  pub place : SlotPlace p z

pub record AtInstruction (p : List ℕ) (i : ℕ) : Type 0 where
  pub literal_bytes : List ℕ
  pub program : WellFormed p literal_bytes
  pub there : i < instructions p

-- parts have larger numbers than wholes, later slots larger ones than earlier slots
unfoldable pub expression_measure : ℕ → ℕ
expression_measure x = 2 * (1024 - x)

unfoldable pub slots_measure : ℕ → ℕ
slots_measure zero = 0
slots_measure (suc y) = 2 * (1024 - y) + 1

-- a place in a code: an instruction, or the end
pub record CodePlace (p : List ℕ) (z : ℕ) : Type 0 where
  pub there : (i : ℕ) → z ≡ suc i → i < instructions p

-- the place of the first instruction of code k; the end where there is no such code
unfoldable pub first_place : List ℕ → ℕ → ℕ
first_place p k = pick (leb (codes p) k) 0 (code_first p k)
