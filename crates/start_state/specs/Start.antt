-- Document 01, "The endless machine", "At the start", over heap words: the written frames outside code are made, program is the outer one, self a further empty frame,
-- and the position is that of the first instruction of Main.start. Frames take their numbers in the order in which they are made. Program words p, literal
-- bytes l. Assumes nothing.
use Rattle.std.specs.Prelude.{◌≡◌, List, ℕ, ◌+◌, ◌≤◌, pos}
use Rattle.framed.specs.declared.Value.{Value}
use Rattle.framed.specs.Tree.{Expression, Slots}
use Rattle.framed.specs.Paths.{Path}
use Rattle.framed.specs.Machine.{frame_literals_in, join_signs_in}
use Rattle.tables.specs.Fields.{program_slots, start, code_first}
use Rattle.program_form.specs.WellFormed.{WellFormed}
use Rattle.trees.specs.Held as trees
use Rattle.heap.specs.Words.{position, set_self, set_program, set_position}
use Rattle.allocation.specs.Allocation.{next_frame}
use Rattle.bounded.specs.Bounded.{Produced, evaluate}
use Rattle.word_store.specs.Store.{Memories, memories, word_store, claim_frame}
use Rattle.evaluation.specs.Evaluation.{program_constants}
use Rattle.emission.specs.Emit.{cleared}

-- the slots of the program frame
abbrev pub written_slots : List ℕ → Slots Path
written_slots p = trees.slots_held p (program_slots p)

-- the written frames, made by the rule of a frame expression on cleared memories, where self and program are integer 0: the program frame, and both memories
unfoldable pub written : List ℕ → List ℕ → Produced Memories
written p l =
    evaluate word_store (program_constants p l) 0 (Value.Int (pos 0)) (Value.Int (pos 0)) (Expression.frame (written_slots p)) (memories (cleared 16384) (cleared 16384))

-- heap words h with self a new frame, of the maker that the position says: 0 before the start
unfoldable pub new_self : List ℕ → List ℕ
new_self h = set_self (claim_frame h (position h)) (Value.Frame (next_frame h))

-- and with this program, and the position at the start; the end mark is that of h
unfoldable pub rooted : List ℕ → List ℕ → Value → List ℕ
rooted p h v = set_position (set_program (new_self h) v) (code_first p (start p))

-- the heap words at the start
unfoldable pub start_heap : List ℕ → List ℕ → List ℕ
start_heap p l = rooted p (written p l).store.heap (written p l).value

-- cleared memories, with numbers for the written frames and one more; nothing outside code is joined (number 7)
pub record CanStart (p l h t : List ℕ) : Type 0 where
  pub program : WellFormed p l
  pub heap_cleared : h ≡ cleared 16384
  pub text_cleared : t ≡ cleared 16384
  pub room : frame_literals_in (written_slots p) + 2 ≤ 256
  pub no_joins : join_signs_in (written_slots p) ≡ 0

-- the written frames are made, and r is the program frame
pub record Makes (p l : List ℕ) (r : ℕ) (h t : List ℕ) : Type 0 where
  pub value_is : Value.Frame r ≡ (written p l).value
  pub heap_is : h ≡ (written p l).store.heap
  pub text_cleared : t ≡ cleared 16384

-- both memories at the start: no text is made outside code
pub record Starts (p l h t : List ℕ) : Type 0 where
  pub heap_is : h ≡ start_heap p l
  pub text_cleared : t ≡ cleared 16384
