-- Document 02, A4, over program words p and literal bytes l: what each function compares, and what it asks. What agrees is `framed`'s Equality. Assumes nothing.
use Rattle.std.specs.Prelude.{Bool, ◌&&◌, List, ℕ, ◌<◌, get_or}
use Rattle.framed.specs.Common.{same}
use Rattle.framed.specs.Tree.{Code}
use Rattle.framed.specs.Equality.{Constants, same_base, same_expression, same_slots, same_instruction, same_code}
use Rattle.tables.specs.Fields.{expressions, instructions}
use Rattle.program_entries.specs.Form.{Base}
use Rattle.program_form.specs.WellFormed.{WellFormed}
use Rattle.program_form.specs.Sound.{SlotPlace}
use Rattle.texts.specs.Literals.{literals_held}
use Rattle.trees.specs.Trees.{path_list}
use Rattle.trees.specs.Held.{base_held, expression_held, slots_held, instruction_held, remaining, program_held}
use Rattle.places.specs.Places.{CodePlace}

-- the constants of the program that p and l hold. (`Rattle.program_equality.proofs.Constants`: constants (program-held p l) ≡ constants-held p l)
unfoldable pub constants_held : List ℕ → List ℕ → Constants
constants_held p l = record { literals = literals_held p l; codes = (program_held p l).codes }

-- the n path names from j on are the m path names from k on
unfoldable pub names_agree : List ℕ → (j n k m : ℕ) → Bool
names_agree p j n k m = same (path_list p n j) (path_list p m k)

module _ (p l : List ℕ) where
  -- expressions x and y, as bases and as expressions
  unfoldable pub bases_agree : ℕ → ℕ → Bool
  bases_agree x y = same_base (literals_held p l) (base_held p x) (base_held p y)

  unfoldable pub expressions_agree : ℕ → ℕ → Bool
  expressions_agree x y = same_expression (literals_held p l) (expression_held p x) (expression_held p y)

  -- the slots from the places a and b on
  unfoldable pub slots_agree : ℕ → ℕ → Bool
  slots_agree a b = same_slots (literals_held p l) (slots_held p a) (slots_held p b)

  unfoldable pub instructions_agree : ℕ → ℕ → Bool
  instructions_agree i j = same_instruction (literals_held p l) (instruction_held p i) (instruction_held p j)

  -- the instructions from the places a and b on
  unfoldable pub lists_agree : ℕ → ℕ → Bool
  lists_agree a b = same_code (literals_held p l) (remaining p a) (remaining p b)

  -- a with c, and b with d
  unfoldable pub two_agree : (a b c d : ℕ) → Bool
  two_agree a b c d = bases_agree a c && bases_agree b d

  -- a with d, b with e, and c with f
  unfoldable pub three_agree : (a b c d e f : ℕ) → Bool
  three_agree a b c d e f = two_agree a b d e && bases_agree c f

  -- codes k and m; a code that is not there has no instructions
  unfoldable pub codes_agree : ℕ → ℕ → Bool
  codes_agree k m = same_code (literals_held p l) (get_or (program_held p l).codes k Code.finished) (get_or (program_held p l).codes m Code.finished)

-- ---- What is asked, of each side

pub record TwoBases (p l : List ℕ) (x y : ℕ) : Type 0 where
  pub program : WellFormed p l
  pub left : Base p x
  pub right : Base p y

pub record TwoExpressions (p l : List ℕ) (x y : ℕ) : Type 0 where
  pub program : WellFormed p l
  pub left : x < expressions p
  pub right : y < expressions p

pub record TwoSlotPlaces (p l : List ℕ) (a b : ℕ) : Type 0 where
  pub program : WellFormed p l
  pub left : SlotPlace p a
  pub right : SlotPlace p b

pub record TwoInstructions (p l : List ℕ) (i j : ℕ) : Type 0 where
  pub program : WellFormed p l
  pub left : i < instructions p
  pub right : j < instructions p

pub record TwoCodePlaces (p l : List ℕ) (a b : ℕ) : Type 0 where
  pub program : WellFormed p l
  pub left : CodePlace p a
  pub right : CodePlace p b
