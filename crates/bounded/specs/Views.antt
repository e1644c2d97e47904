-- Document 01, "The endless machine": what a heap of either machine shows under each number that is in use, and how many numbers are in use.
-- Assumes nothing.
use Rattle.std.specs.Prelude.{◌≡◌, ◌≢◌, Bool, true, false, List, [], ◌∷◌, ℕ, zero, suc, ◌+◌, ◌≤◌, length}
use Rattle.std.proofs.Math.Option.{Option, none, some}
use Rattle.std.proofs.Math.ListN.{get_elem?}
use Rattle.framed.specs.Values.{Frame, Heap}

-- What a heap holds, and which of its frames and made texts are in use
pub record View : Type 0 where
  pub heap : Heap
  pub uses_frame : ℕ → Bool
  pub uses_text : ℕ → Bool

abbrev pub where_used : {A : Type 0} → Bool → Option A → Option A
where_used true o = o
where_used false o = none

-- the frame of this number, if it is in use; the bytes of the made text of this number, if it is in use
unfoldable pub frame_at : View → ℕ → Option Frame
frame_at H n = where_used (H.uses_frame n) (get_elem? H.heap.frames n)

unfoldable pub text_at : View → ℕ → Option (List ℕ)
text_at H k = where_used (H.uses_text k) (get_elem? H.heap.texts k)

-- in the unbounded machine every number is in use, and stays so
abbrev pub all_used : Heap → View
all_used h = record { heap = h; uses_frame = λ n. true; uses_text = λ k. true }

-- ---- How many are in use

-- the numbers below n at which a partial function is defined, the largest first
abbrev pub add_if : {A : Type 0} → Option A → ℕ → List ℕ → List ℕ
add_if none n l = l
add_if (some a) n l = n ∷ l

abbrev pub defined_below : {A : Type 0} → (ℕ → Option A) → ℕ → List ℕ
defined_below H zero = []
defined_below H (suc n) = add_if (H n) n (defined_below H n)

unfoldable pub used : {A : Type 0} → (ℕ → Option A) → ℕ → ℕ
used H n = length (defined_below H n)

-- a store has entries for 256 frames and for 256 made texts
unfoldable pub entries : ℕ
entries = 256

unfoldable pub frames_used : View → ℕ
frames_used H = used (frame_at H) entries

unfoldable pub texts_used : View → ℕ
texts_used H = used (text_at H) entries

-- ---- The view after a write of one frame, and after a write of one made text

pub record FrameWritten (H K : View) (n : ℕ) (f : Frame) : Type 0 where
  pub here : frame_at K n ≡ some f
  pub there : (m : ℕ) → m ≢ n → frame_at K m ≡ frame_at H m
  pub texts : (k : ℕ) → text_at K k ≡ text_at H k

pub record TextWritten (H K : View) (k : ℕ) (bs : List ℕ) : Type 0 where
  pub here : text_at K k ≡ some bs
  pub there : (j : ℕ) → j ≢ k → text_at K j ≡ text_at H j
  pub frames : (n : ℕ) → frame_at K n ≡ frame_at H n

-- at most f frames and n made texts more are in use, and what was in use is still
pub record Takes (H K : View) (f n : ℕ) : Type 0 where
  pub frames : frames_used K ≤ frames_used H + f
  pub texts : texts_used K ≤ texts_used H + n
  pub stays : (m : ℕ) (x : Frame) → frame_at H m ≡ some x → (y : Frame) × (frame_at K m ≡ some y)
  pub stays_text : (k : ℕ) (bs : List ℕ) → text_at H k ≡ some bs → text_at K k ≡ some bs
