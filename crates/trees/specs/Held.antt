-- The program that program words p and literal bytes l hold, as document 01's resolved program (crate `framed`), and the laws by which it is read:
-- each tree is one level over the same trees. Assumes nothing.
use Rattle.std.specs.Prelude.{◌≡◌, List, [], ◌∷◌, ℕ, zero, suc, ◌+◌, ◌<◌, get_or}
use Rattle.framed.specs.Tree.{Base, Expression, Slots, Instruction, Code, ◌then◌}
use Rattle.framed.specs.Paths.{Path}
use Rattle.framed.specs.Program.{Program}
use Rattle.framed.specs.Machine.{following, first_of}
use Rattle.tables.specs.Entries.{expression_at, instruction_at}
use Rattle.tables.specs.Fields.{names, name_length, name_byte, literals, literal_length, literal_byte, expressions, instructions, codes, code_first, program_slots, start}
use Rattle.tables.specs.Fields.{expression_kind, slot_name, slot_after, instruction_after}
use Rattle.program_form.specs.Sound.{SlotPlace}
use Rattle.trees.specs.Trees.{Readers, trees, base_tree, expression_tree, instruction_tree}

-- expression x read as a base, and as an expression
unfoldable pub base_held : List ℕ → ℕ → Base Path
base_held p x = (trees p).base x

unfoldable pub expression_held : List ℕ → ℕ → Expression Path
expression_held p x = (trees p).expression x

-- the slots from the place z on
unfoldable pub slots_held : List ℕ → ℕ → Slots Path
slots_held p z = (trees p).slots z

unfoldable pub instruction_held : List ℕ → ℕ → Instruction Path
instruction_held p i = (trees p).instruction i

-- the instructions from the place z on: what remains of a code
unfoldable pub remaining : List ℕ → ℕ → Code Path
remaining p z = (trees p).code z

-- these readers together
abbrev pub held : List ℕ → Readers
held p = record { base = base_held p; expression = expression_held p; slots = slots_held p; instruction = instruction_held p; code = remaining p }

-- f i, f (i + 1), .. , n of them
unfoldable pub list_from : {A : Type 0} → (ℕ → A) → ℕ → ℕ → List A
list_from f zero i = []
list_from f (suc n) i = f i ∷ list_from f n (i + 1)

unfoldable pub name_bytes : List ℕ → ℕ → List ℕ
name_bytes p k = list_from (name_byte p k) (name_length p k) 0

unfoldable pub literal_bytes : List ℕ → List ℕ → ℕ → List ℕ
literal_bytes p l k = list_from (literal_byte l k) (literal_length p k) 0

unfoldable pub program_held : List ℕ → List ℕ → Program
program_held p l =
    record {
      names = list_from (name_bytes p) (names p) 0;
      literals = list_from (literal_bytes p l) (literals p) 0;
      codes = list_from (λ k. remaining p (code_first p k)) (codes p) 0;
      instructions = list_from (instruction_held p) (instructions p) 0;
      firsts = list_from (code_first p) (codes p) 0;
      nexts = list_from (instruction_after p) (instructions p) 0;
      slots = slots_held p (program_slots p);
      start = start p;
    }

-- in well-formed words each tree is one level over the same trees
pub record OneLevel (p l : List ℕ) : Type 0 where
  pub base : (x : ℕ) → x < expressions p → base_held p x ≡ base_tree (held p) p (expression_at p x)
  pub expression : (x : ℕ) → x < expressions p → expression_held p x ≡ expression_tree (held p) p x (expression_at p x)
  -- an expression that is a base, as an operand is
  pub as_base : (x : ℕ) → x < expressions p → expression_kind p x < 5 → expression_held p x ≡ Expression.base (base_held p x)
  pub no_slots : slots_held p 0 ≡ Slots.no_slots
  pub slot : (y : ℕ) → SlotPlace p (suc y) → slots_held p (suc y) ≡ Slots.slot (slot_name p y) (expression_held p y) (slots_held p (slot_after p y))
  pub instruction : (i : ℕ) → i < instructions p → instruction_held p i ≡ instruction_tree (held p) p (instruction_at p i)
  -- what remains from an instruction on is the instruction, and then what remains from the next on
  pub finished : remaining p 0 ≡ Code.finished
  pub next : (i : ℕ) → i < instructions p → remaining p (suc i) ≡ (instruction_held p i then remaining p (instruction_after p i))
  -- entries of the program's lists
  pub code : (k : ℕ) → k < codes p → get_or (program_held p l).codes k Code.finished ≡ remaining p (code_first p k)
  -- the numbers of instructions are the places: where a code begins, and the place after an instruction
  pub code_begins : (k : ℕ) → k < codes p → first_of (program_held p l) k ≡ code_first p k
  pub follows : (i : ℕ) → i < instructions p → following (program_held p l) (suc i) ≡ instruction_after p i
  pub literal : (k : ℕ) → k < literals p → get_or (program_held p l).literals k [] ≡ literal_bytes p l k
  pub name : (k : ℕ) → k < names p → get_or (program_held p l).names k [] ≡ name_bytes p k
