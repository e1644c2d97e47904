-- Document 01, "The endless machine", the value of an expression, over the words: it is the bounded machine's `evaluate` on the store that the words are. The words of
-- self, program, position and end mark stay as they are. Assumes nothing.
use Rattle.std.specs.Prelude.{ℕ, ◌-◌, ◌<◌, ◌≤◌, ◌≡◌, List}
use Rattle.framed.specs.declared.Value.{Value}
use Rattle.framed.specs.Equality.{Constants, constants}
use Rattle.framed.specs.Machine.{frame_literals, frame_literals_in, join_signs, join_signs_in}
use Rattle.tables.specs.declared.ExpressionEntry.{ExpressionEntry}
use Rattle.tables.specs.Entries.{expression_at}
use Rattle.tables.specs.Fields.{expressions, expression_kind, slot_name, slot_after}
use Rattle.program_form.specs.Sound.{SlotPlace}
use Rattle.trees.specs.Held as trees
use Rattle.heap.specs.Words.{self_held, program_held, position, add_slot}
use Rattle.heap.specs.Closed.{ValueFits, FrameInUse}
use Rattle.allocation.specs.Allocation.{next_frame}
use Rattle.bounded.specs.Bounded.{value_given, evaluate, fill}
use Rattle.operands.specs.Operands.{operand_value}
use Rattle.word_store.specs.Store.{word_store, claim_frame}
use Rattle.word_store.specs.State.{store_held}
use Rattle.producing.specs.Producing.{HasRoom, Writable, Leaves, made}

-- a frame is claimed: its maker is the instruction at the position, 0 before the start
pub record Claims (h : List ℕ) (r : ℕ) (h' : List ℕ) : Type 0 where
  pub answer : r ≡ next_frame h
  pub words : h' ≡ claim_frame h (position h)

-- the string and code literals of the program that p and l hold
abbrev pub program_constants : List ℕ → List ℕ → Constants
program_constants p l = constants (trees.program_held p l)

-- ---- Expressions

-- expression x is there, and there is room for what it makes
pub record CanEvaluate (p l h t : List ℕ) (x : ℕ) : Type 0 where
  pub writable : Writable p l h t
  pub there : x < expressions p
  pub room : HasRoom h (frame_literals (trees.expression_held p x)) (join_signs (trees.expression_held p x))

-- and it is no frame literal
pub record Flat (p l h t : List ℕ) (x : ℕ) : Type 0 where
  pub can : CanEvaluate p l h t x
  pub no_frame : (d : ℕ) → expression_at p x ≡ ExpressionEntry.Frame d → ⊥

-- the answer and the memories at exit
pub record Evaluates (p l h t : List ℕ) (x : ℕ) (r : Value) (h' t' : List ℕ) : Type 0 where
  pub produced : evaluate word_store (program_constants p l) (position h) (self_held h) (program_held h) (trees.expression_held p x) (store_held h t) ≡ made r h' t'
  pub leaves : Leaves h t (frame_literals (trees.expression_held p x)) (join_signs (trees.expression_held p x)) h' t'
  -- as every value of the code
  pub fits : ValueFits r

-- ---- Slots

-- z is a place among the slots of a frame, frame f is in use, and there is room for what the slots make
pub record CanFill (p l h t : List ℕ) (f z : ℕ) : Type 0 where
  pub writable : Writable p l h t
  pub place : SlotPlace p z
  pub frame : FrameInUse h f
  pub room : HasRoom h (frame_literals_in (trees.slots_held p z)) (join_signs_in (trees.slots_held p z))

pub record Fills (p l h t : List ℕ) (f z : ℕ) (h' t' : List ℕ) : Type 0 where
  pub stored : fill word_store (program_constants p l) (position h) (self_held h) (program_held h) f (trees.slots_held p z) (store_held h t) ≡ store_held h' t'
  pub leaves : Leaves h t (frame_literals_in (trees.slots_held p z)) (join_signs_in (trees.slots_held p z)) h' t'

-- ---- Bases among the slots

-- the bases (kinds 0 to 4) from the place z on are pushed on frame f, up to the place r of a slot that is no base; r is 0 where none is left
pub data FillsBases (p : List ℕ) (f : ℕ) : List ℕ → ℕ → ℕ → List ℕ → Type 0 where
  none : {h : List ℕ} {z : ℕ} → z ≡ 0 → FillsBases p f h z 0 h
  other : {h : List ℕ} {z : ℕ} → (z ≡ 0 → ⊥) → 5 ≤ expression_kind p (z - 1) → FillsBases p f h z z h
  base : {h h' : List ℕ} {z r : ℕ} → (z ≡ 0 → ⊥) → expression_kind p (z - 1) < 5 →
      FillsBases p f (add_slot h f (slot_name p (z - 1)) (value_given (operand_value p h (z - 1)))) (slot_after p (z - 1)) r h' → FillsBases p f h z r h'
