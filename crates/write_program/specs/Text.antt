-- Document 02, A1: the text of each part of the program that program words p and literal bytes l hold, with one space before each word: what each function
-- appends, and what it asks. What a text is, is `framed`'s Writer. Assumes nothing.
use Rattle.std.specs.Prelude.{◌≡◌, ◌≢◌, Bool, List, [], ◌∷◌, ◌++◌, ℕ, ◌≤◌, ◌<◌, length, get_or, take}
use Rattle.framed.specs.Common.{bytes}
use Rattle.framed.specs.Tokens.{Token, Fixed}
use Rattle.framed.specs.Tree.{Base, Expression, Slots, Instruction, Code}
use Rattle.framed.specs.Paths.{Place, outside_code, within_slot, Path}
use Rattle.framed.specs.Writer.{one, mark, led, base_words, expression_words, slots_words, instruction_words, code_words}
use Rattle.words.specs.Words.{pick}
use Rattle.tables.specs.Fields.{expressions, slot_name}
use Rattle.program_form.specs.WellFormed.{WellFormed}
use Rattle.program_form.specs.Sound.{SlotPlace}
use Rattle.trees.specs.Held.{base_held, expression_held, slots_held, instruction_held, remaining, program_held}
use Rattle.write_words.specs.Appending.{CanAppend, Appended}
use Rattle.write_words.specs.Words.{name_table}

module _ (p l : List ℕ) where
  -- the words of a tree in a place, with the program's names and literals; `inner` is the place of what is written in a frame that the expression is
  abbrev pub base_led : Place → Base Path → List ℕ
  base_led place b = led (base_words (name_table p) (program_held p l).literals place b)

  abbrev pub expression_led : Place → Place → Expression Path → List ℕ
  expression_led place inner g = led (expression_words (name_table p) (program_held p l).literals place inner g)

  abbrev pub slots_led : Place → Slots Path → List ℕ
  slots_led place ss = led (slots_words (name_table p) (program_held p l).literals place ss)

  abbrev pub instruction_led : Place → Instruction Path → List ℕ
  instruction_led place i = led (instruction_words (name_table p) (program_held p l).literals place i)

  abbrev pub code_led : Place → Code Path → List ℕ
  code_led place is = led (code_words (name_table p) (program_held p l).literals place is)

  -- expression x as a base, and as an expression
  unfoldable pub base_text : Place → ℕ → List ℕ
  base_text place x = base_led place (base_held p x)

  unfoldable pub expression_text : Place → Place → ℕ → List ℕ
  expression_text place inner x = expression_led place inner (expression_held p x)

  -- the expression of slot y of a frame outside code; ns are the names of that frame
  unfoldable pub outside_text : List ℕ → ℕ → List ℕ
  outside_text ns y = expression_text (outside_code ns) (within_slot (slot_name p y) (outside_code ns)) y

  -- the slots from the place z on
  unfoldable pub slots_text : Place → ℕ → List ℕ
  slots_text place z = slots_led place (slots_held p z)

  unfoldable pub instruction_text : Place → ℕ → List ℕ
  instruction_text place i = instruction_led place (instruction_held p i)

  -- the instructions from the place z on
  unfoldable pub code_text : Place → ℕ → List ℕ
  code_text place z = code_led place (remaining p z)

-- what stands before the name of a slot: a comma where it is not the first, and a space
unfoldable pub lead_text : Bool → List ℕ
lead_text first = pick first (bytes " ") (bytes " , ")

-- what stands before the expression of slot y: a comma where it is not the first, its name, and `:=`
unfoldable pub head_text : List ℕ → Bool → ℕ → List ℕ
head_text p first y = led (pick first [] (mark Fixed.comma ∷ []) ++ (one (Token.name (get_or (name_table p) (slot_name p y) [])) ∷ mark Fixed.assign ∷ []))

-- well-formed program words, and a buffer that can be appended to
pub record CanWrite (p l m : List ℕ) (limit at : ℕ) : Type 0 where
  pub program : WellFormed p l
  pub can : CanAppend m limit at

-- Outside code: the first d numbers of g are the names of the holding frame. The frames around an expression have smaller numbers, so 1024 names are enough
pub record OutsideSlot (p g : List ℕ) (d y : ℕ) : Type 0 where
  pub there : y < expressions p
  pub size : length g ≡ 1024
  pub deep : d ≤ y

pub record OutsideSlots (p g : List ℕ) (d z : ℕ) : Type 0 where
  pub place : SlotPlace p z
  pub size : length g ≡ 1024
  pub deep : z ≢ 0 → d < z

-- what is appended there; the names of the holding frame stay
pub record OutsideAppended (g : List ℕ) (d : ℕ) (m : List ℕ) (limit at : ℕ) (bs g' m' : List ℕ) (r : ℕ) : Type 0 where
  pub appended : Appended m limit at bs m' r
  pub names_kept : take d g' ≡ take d g
