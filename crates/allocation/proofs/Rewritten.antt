-- A frame whose slots change: what the view of the words then shows. Assumes nothing.
use Prim.Native.Nat.{ℕ, ◌+◌, ◌*◌, ◌≤◌, ◌<◌}
use mathlib.Core.Path.{◌≡◌, ◌∙◌, ap, sym}
use mathlib.Core.Logic.{◌≢◌}
use mathlib.Core.List.{List}
use mathlib.Core.Bool.{true}
use mathlib.Core.Option.{some}
use native.Mathlib.Omega.{arith}
use native.Mathlib.Decide.{dec_lt, dec_le}
use lib.ListN.{length, get_elem?, set, length-set}
use lib.Seq.{get_or-set_same, get_or-set_other}
use Rattle.framed.specs.Values.{Frame}
use Rattle.bounded.specs.Views.{frame_at, text_at, FrameWritten}
use Rattle.heap.specs.Words.{frame_used, text_used}
use Rattle.heap.specs.Held.{heap_held, frames_held, texts_held}
use Rattle.heap.proofs.Lists.{elem_at, elem_past}
use Rattle.heap.proofs.Laws.{Local, local_same, same_frame_used, same_text_used}
use Rattle.heap.proofs.Held.{frames_length}
use Rattle.allocation.specs.Allocation.{view_held}

-- an element that was set, and another one
module _ {A : Type 0} (l : List A) (k : ℕ) (a : A) where
  set_found : k < length l → get_elem? (set l k a) k ≡ some a
  set_found lt = elem_at (set l k a) k a (let n = length-set l k a in omega arith) ∙ ap some (get_or-set_same l k a a lt)

  set_other : (j : ℕ) → j ≢ k → get_elem? (set l k a) j ≡ get_elem? l j
  set_other j ne = go (dec_lt j (length l))
    where
      go : Dec (j < length l) → get_elem? (set l k a) j ≡ get_elem? l j
      go (yes lt) = elem_at (set l k a) j a (let n = length-set l k a in omega arith) ∙ ap some (get_or-set_other l k j a a ne) ∙ sym (elem_at l j a lt)
      go (no ge) = elem_past (set l k a) j (let n = length-set l k a in omega arith) ∙ sym (elem_past l j (omega arith))

-- what the view shows where the words hold the same
module _ (h h' t t' : List ℕ) where
  same_frame_shown : (f : ℕ) → frame_used h' f ≡ frame_used h f → get_elem? (frames_held h') f ≡ get_elem? (frames_held h) f → frame_at (view_held h' t') f ≡ frame_at (view_held h t) f
  unfolding frame_at view_held heap_held
  same_frame_shown f u e = rw (u, e)

  same_text_shown : (k : ℕ) → text_used h' k ≡ text_used h k → get_elem? (texts_held h' t') k ≡ get_elem? (texts_held h t) k
      → text_at (view_held h' t') k ≡ text_at (view_held h t) k
  unfolding text_at view_held heap_held
  same_text_shown k u e = rw (u, e)

frame_shown : (h t : List ℕ) (f : ℕ) (x : Frame) → frame_used h f ≡ true → get_elem? (frames_held h) f ≡ some x → frame_at (view_held h t) f ≡ some x
unfolding frame_at view_held heap_held
frame_shown h t f x u e = rw (u, e)

-- a change of the slots of a frame in use
module _ (h h' t : List ℕ) (f : ℕ) (hf : f < 256) (l : Local (129 + 51 * f) (179 + 51 * f) h h') (u : frame_used h f ≡ true) where
  used_as_before : (g : ℕ) → frame_used h' g ≡ frame_used h g
  used_as_before g = same_frame_used g (local_same l _ _ (λ k lo hi lo' hi'. apart k lo hi lo' hi' (dec_le g f)))
    where
      apart : (k : ℕ) → 128 + 51 * g ≤ k → k < 129 + 51 * g → 129 + 51 * f ≤ k → k < 179 + 51 * f → Dec (g ≤ f) → ⊥
      apart k lo hi lo' hi' (yes le) = omega arith
      apart k lo hi lo' hi' (no gt) = omega arith

  pub frame_rewritten : (x : Frame) → frames_held h' ≡ set (frames_held h) f x → texts_held h' t ≡ texts_held h t → FrameWritten (view_held h t) (view_held h' t) f x
  frame_rewritten x e q = record {
    here = frame_shown h' t f x (used_as_before f ∙ u) (ap (λ fs. get_elem? fs f) e ∙ set_found (frames_held h) f x (let n = frames_length h in omega arith));
    there = λ m ne. same_frame_shown h h' t t m (used_as_before m) (ap (λ fs. get_elem? fs m) e ∙ set_other (frames_held h) f x m ne);
    texts = λ k.
        same_text_shown h h' t t k (same_text_used k (local_same l _ _ (λ j lo hi lo' hi'. omega arith))) (ap (λ ts. get_elem? ts k) q);
  }
