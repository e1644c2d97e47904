-- docs/LAYOUT.md, "Heap words": the words that hold a state of the bounded machine. Assumes nothing.
use Rattle.std.specs.Prelude.{ℕ, ◌≤◌, ◌≡◌, List, length}
use Rattle.std.specs.Int.{w32}
use Rattle.std.proofs.Common.{Fits}
use Rattle.words.specs.Words.{word}
use Rattle.framed.specs.Tree.{Code}
use Rattle.framed.specs.Paths.{Path}
use Rattle.heap.specs.Words.{set_self, set_program, set_position, set_end_mark}
use Rattle.bounded.specs.Bounded.{Bounded}
use Rattle.word_store.specs.Store.{Memories}
use Rattle.word_store.specs.State.{state_held}

-- the store's words, with self, program, position and end mark
unfoldable pub heap_of : Bounded Memories → List ℕ
heap_of b = set_end_mark (set_position (set_program (set_self b.store.heap b.self) b.program) b.next) b.end_mark

-- the words have 32 bits, as those of a lent memory have
pub record WordsFit (h : List ℕ) : Type 0 where
  pub fits : (k : ℕ) → Fits w32 (word h k)

-- a tag above 4 would be read as a frame's
pub record Tagged (h : List ℕ) : Type 0 where
  pub self : word h 0 ≤ 4
  pub program : word h 2 ≤ 4

-- words are those of the state that they hold
abbrev pub WordsExact : Type 0
WordsExact = (remaining_from : ℕ → Code Path) (h t : List ℕ) → length h ≡ 16384 → WordsFit h → Tagged h → h ≡ heap_of (state_held remaining_from h t)
