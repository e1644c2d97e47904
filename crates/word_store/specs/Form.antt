-- Document 01, "Whole memories" (here: well-formed), the clauses on heap words h and text bytes t: those that a store has, and the others. Assumes nothing.
use Rattle.std.specs.Prelude.{ℕ, ◌≤◌, ◌<◌, ◌≡◌, ◌⊎◌, ◌↔◌, List, length}
use Rattle.words.specs.Words.{word}
use Rattle.framed.specs.Program.{Program}
use Rattle.heap.specs.Words.{value_of, position, end_mark, frame_word}
use Rattle.heap.specs.Held.{frames_in_use, texts_in_use}
use Rattle.heap.specs.Closed.{FrameInUse, TextInUse}
use Rattle.allocation.specs.Allocation.{view_held}
use Rattle.bounded.specs.Fits.{Valid}
use Rattle.frame_form.specs.declared.Limits.{Limits}
use Rattle.state_form.specs.Form.{ValueFormed, FrameFormed, TextFormed, StateWellFormed}

-- sizes, what is in use or not, frames and made texts
pub record StoreFormed (h t : List ℕ) (l : Limits) : Type 0 where
  pub heap_size : length h ≡ 16384
  pub text_size : length t ≡ 16384
  pub flag : (f : ℕ) → f < 256 → (frame_word h f ≡ 0) ⊎ (frame_word h f ≡ 1)
  pub frame : (f : ℕ) → FrameInUse h f → FrameFormed h l f
  pub text : (k : ℕ) → TextInUse h k → TextFormed h t k

-- self, program, position, end mark, and the counts against F and T
pub record RestFormed (h : List ℕ) (l : Limits) : Type 0 where
  pub self : ValueFormed h l (word h 0) (word h 1)
  pub program : ValueFormed h l (word h 2) (word h 3)
  pub frames_few : length (frames_in_use h) ≤ l.frames
  pub texts_few : length (texts_in_use h) ≤ l.texts
  pub position_there : position h ≤ l.instructions
  pub end : (end_mark h ≡ 0) ⊎ ((31 ≤ end_mark h) × (end_mark h ≤ 37))

-- both together are a well-formed state
abbrev pub StateParts : Type 0
StateParts = (h t : List ℕ) (l : Limits) → StateWellFormed h t l ↔ (StoreFormed h t l × RestFormed h l)

-- the limits have the numbers of the program q
pub record LimitsOf (l : Limits) (q : Program) : Type 0 where
  pub names : l.names ≡ length q.names
  pub literals : l.literals ≡ length q.literals
  pub codes : l.codes ≡ length q.codes
  pub instructions : l.instructions ≡ length q.instructions

-- a tag and a number are well-formed exactly where the tag is one and the value is valid (a tag above 4 would be read as a frame's)
abbrev pub ValuesAgree : Type 0
ValuesAgree = (h t : List ℕ) (l : Limits) (q : Program) → LimitsOf l q → (tag n : ℕ) →
    ValueFormed h l tag n ↔ ((tag ≤ 4) × Valid q (view_held h t) (value_of tag n))
