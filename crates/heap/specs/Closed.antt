-- Document 01, "Whole memories" (here: well-formed): the part on heap words that the laws of the updaters and the collector ask for. Well-formed states have it.
-- Assumes nothing.
use Rattle.std.specs.Prelude.{ℕ, ◌≤◌, ◌<◌, ◌≡◌, List, true, length, ℤ}
use Rattle.std.specs.Int.{w32}
use Rattle.std.proofs.Common.{SFits}
use Rattle.framed.specs.declared.Text.{Text}
use Rattle.framed.specs.declared.Value.{Value}
use Rattle.heap.specs.Words.{self_held, program_held, frame_used, slot_count_at, slot_value_at, text_word, text_used}

-- 16,384 words; at most 16 slots in a frame in use; at most 64 bytes in a text
pub record Sized (h : List ℕ) : Type 0 where
  pub size : length h ≡ 16384
  pub slots : (f : ℕ) → f < 256 → frame_used h f ≡ true → slot_count_at h f ≤ 16
  pub texts : (k : ℕ) → k < 256 → text_word h k ≤ 65

-- an integer is one of 32 bits, as every `Value` of the code is
pub record ValueFits (v : Value) : Type 0 where
  pub int : (z : ℤ) → v ≡ Value.Int z → SFits w32 z

-- the number is that of a frame in use, of a made text in use
pub record FrameInUse (h : List ℕ) (f : ℕ) : Type 0 where
  pub small : f < 256
  pub used : frame_used h f ≡ true

pub record TextInUse (h : List ℕ) (k : ℕ) : Type 0 where
  pub small : k < 256
  pub used : text_used h k ≡ true

-- the frame or made text that the value names is in use
pub record NamesInUse (h : List ℕ) (v : Value) : Type 0 where
  pub frame : (f : ℕ) → v ≡ Value.Frame f → FrameInUse h f
  pub made : (k : ℕ) → v ≡ Value.Text (Text.Made k) → TextInUse h k

-- Σ, Π and the values of frames in use name only frames and texts in use
pub record Closed (h : List ℕ) : Type 0 where
  pub sized : Sized h
  pub self : NamesInUse h (self_held h)
  pub program : NamesInUse h (program_held h)
  pub slot : (f i : ℕ) → FrameInUse h f → i < slot_count_at h f → NamesInUse h (slot_value_at h f i)
