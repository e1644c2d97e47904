-- Document 01, "Whole memories" (here: well-formed), the clauses on heap words h and text bytes t, for a program with the numbers l. This is what a reader must believe.
-- Assumes nothing.
use Rattle.std.specs.Prelude.{ℕ, ◌≤◌, ◌<◌, ◌≡◌, ◌≢◌, ◌⊎◌, List, true, length}
use Rattle.words.specs.Words.{word}
use Rattle.framed.specs.Bytes.{string_byte}
use Rattle.heap.specs.Words.{position, end_mark, frame_word, maker_at, slot_count_at, slot_name_at, slot_tag_at, slot_number_at, text_length, text_byte}
use Rattle.heap.specs.Held.{frames_in_use, texts_in_use}
use Rattle.heap.specs.Closed.{FrameInUse, TextInUse}
use Rattle.frame_form.specs.declared.Limits.{Limits}

-- what the value names is there (tags: 0 integer, 1 literal, 2 made text, 3 code, 4 frame)
pub record ValueFormed (h : List ℕ) (l : Limits) (tag n : ℕ) : Type 0 where
  pub formed : tag ≤ 4
  pub literal : tag ≡ 1 → n < l.literals
  pub made : tag ≡ 2 → TextInUse h n
  pub code : tag ≡ 3 → n < l.codes
  pub frame : tag ≡ 4 → FrameInUse h n

-- a slot has an existing name, which no slot before it has, and such a value
pub record SlotFormed (h : List ℕ) (l : Limits) (f i : ℕ) : Type 0 where
  pub named : slot_name_at h f i < l.names
  pub value : ValueFormed h l (slot_tag_at h f i) (slot_number_at h f i)
  pub new : (j : ℕ) → j < i → slot_name_at h f j ≢ slot_name_at h f i

pub record FrameFormed (h : List ℕ) (l : Limits) (f : ℕ) : Type 0 where
  pub few : slot_count_at h f ≤ 16
  -- 0, or an existing instruction, counted from 1
  pub maker : maker_at h f ≤ l.instructions
  pub slot : (i : ℕ) → i < slot_count_at h f → SlotFormed h l f i

-- at most 64 bytes that keep the string rule
pub record TextFormed (h t : List ℕ) (k : ℕ) : Type 0 where
  pub short : text_length h k ≤ 64
  pub bytes : (i : ℕ) → i < text_length h k → string_byte (text_byte t k i) ≡ true

pub record StateWellFormed (h t : List ℕ) (l : Limits) : Type 0 where
  pub heap_size : length h ≡ 16384
  pub text_size : length t ≡ 16384
  -- Σ and Π
  pub self : ValueFormed h l (word h 0) (word h 1)
  pub program : ValueFormed h l (word h 2) (word h 3)
  -- in use or not; those in use
  pub flag : (f : ℕ) → f < 256 → (frame_word h f ≡ 0) ⊎ (frame_word h f ≡ 1)
  pub frame : (f : ℕ) → FrameInUse h f → FrameFormed h l f
  pub text : (k : ℕ) → TextInUse h k → TextFormed h t k
  pub frames_few : length (frames_in_use h) ≤ l.frames
  pub texts_few : length (texts_in_use h) ≤ l.texts
  -- 0, or 1 + an existing instruction
  pub position_there : position h ≤ l.instructions
  pub end : (end_mark h ≡ 0) ⊎ ((31 ≤ end_mark h) × (end_mark h ≤ 37))
