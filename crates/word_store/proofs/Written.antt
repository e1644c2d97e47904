-- What the view of the words shows after a write of one frame. Assumes nothing.
use Prim.Native.Nat.{ℕ, ◌<◌}
use mathlib.Core.Path.{◌≡◌, refl, ◌∙◌, ap, sym, subst}
use mathlib.Core.Logic.{◌≢◌}
use mathlib.Core.List.{List}
use mathlib.Core.Bool.{Bool, true, false, true≢false}
use native.Mathlib.Omega.{arith}
use native.Mathlib.Decide.{dec_lt}
use lib.ListN.{get_elem?, set}
use Rattle.framed.specs.Values.{Frame}
use Rattle.heap.specs.Words.{frame_used, text_used}
use Rattle.heap.specs.Lists.{passing}
use Rattle.heap.specs.Held.{heap_held, frames_held, texts_held, frames_in_use, texts_in_use}
use Rattle.heap.proofs.Lists.{◌∈◌, elem_set_same, elem_set_other, passing_means, passing_has}
use Rattle.heap.proofs.Held.{SameFrames, SameTexts, frames_length}
use Rattle.bounded.specs.Views.{frame_at, text_at, FrameWritten}
use Rattle.allocation.specs.Allocation.{view_held}
use Rattle.allocation.proofs.Views.{shows_frame_past, shows_text_past}

-- tests that pass the same numbers agree
passing_agree : (t t' : ℕ → Bool) (n : ℕ) → passing t' n ≡ passing t n → (k : ℕ) → k < n → t' k ≡ t k
passing_agree t t' n e k lt = go (t' k) refl (t k) refl
  where
    go : (b : Bool) → t' k ≡ b → (c : Bool) → t k ≡ c → t' k ≡ t k
    go true p true q = p ∙ sym q
    go false p false q = p ∙ sym q
    go true p false q = absurd (true≢false (sym (passing_means t n k (subst (λ (l : List ℕ). k ∈ l) e (passing_has t' n k lt p))).1 ∙ q))
    go false p true q = absurd (true≢false (sym (passing_means t' n k (subst (λ (l : List ℕ). k ∈ l) (sym e) (passing_has t n k lt q))).1 ∙ p))

module _ (h h' t t' : List ℕ) where
  -- a number of which neither the use nor the contents change
  pub same_frame_at : (m : ℕ) → (m < 256 → frame_used h' m ≡ frame_used h m) → get_elem? (frames_held h') m ≡ get_elem? (frames_held h) m →
      frame_at (view_held h' t') m ≡ frame_at (view_held h t) m
  unfolding frame_at view_held heap_held
  same_frame_at m u e = go (dec_lt m 256)
    where
      go : Dec (m < 256) → frame_at (view_held h' t') m ≡ frame_at (view_held h t) m
      go (yes lt) = rw (u lt, e)
      go (no ge) = shows_frame_past h' t' m (omega arith) ∙ sym (shows_frame_past h t m (omega arith))

  pub same_text_at : (k : ℕ) → (k < 256 → text_used h' k ≡ text_used h k) → get_elem? (texts_held h' t') k ≡ get_elem? (texts_held h t) k →
      text_at (view_held h' t') k ≡ text_at (view_held h t) k
  unfolding text_at view_held heap_held
  same_text_at k u e = go (dec_lt k 256)
    where
      go : Dec (k < 256) → text_at (view_held h' t') k ≡ text_at (view_held h t) k
      go (yes lt) = rw (u lt, e)
      go (no ge) = shows_text_past h' t' k (omega arith) ∙ sym (shows_text_past h t k (omega arith))

  pub same_frames_at : SameFrames h h' → (m : ℕ) → frame_at (view_held h' t') m ≡ frame_at (view_held h t) m
  unfolding frames_in_use
  same_frames_at s m = same_frame_at m (passing_agree (frame_used h) (frame_used h') 256 s.in_use m) (ap (λ (l : List Frame). get_elem? l m) s.frames)

pub same_texts_at : (h h' t : List ℕ) → SameTexts h h' → (k : ℕ) → text_at (view_held h' t) k ≡ text_at (view_held h t) k
unfolding texts_in_use
same_texts_at h h' t s k = same_text_at h h' t t k (passing_agree (text_used h) (text_used h') 256 s.in_use k) (ap (λ (l : List (List ℕ)). get_elem? l k) (s.texts t))

-- one frame is written, in use afterwards
module _ (h h' t : List ℕ) (f : ℕ) (x : Frame) (hf : f < 256) (frames : frames_held h' ≡ set (frames_held h) f x) (texts : SameTexts h h') where
  pub frame_written : frame_used h' f ≡ true → ((g : ℕ) → g ≢ f → g < 256 → frame_used h' g ≡ frame_used h g) → FrameWritten (view_held h t) (view_held h' t) f x
  unfolding frame_at view_held heap_held
  frame_written u others = record {
    here = rw (u, frames) (elem_set_same (frames_held h) f x (let l = frames_length h in omega arith));
    there = λ m ne. same_frame_at h h' t t m (others m ne) (ap (λ (l : List Frame). get_elem? l m) frames ∙ elem_set_other (frames_held h) f m x ne);
    texts = same_texts_at h h' t texts;
  }

  -- where the same are in use as before
  pub frame_rewritten : frame_used h f ≡ true → frames_in_use h' ≡ frames_in_use h → FrameWritten (view_held h t) (view_held h' t) f x
  unfolding frames_in_use
  frame_rewritten u e =
      let p = passing_agree (frame_used h) (frame_used h') 256 e in
      frame_written (p f hf ∙ u) (λ g ne lt. p g lt)
