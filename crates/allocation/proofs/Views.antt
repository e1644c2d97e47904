-- What the view of the words shows under each number, and that the counts are its counts. Assumes nothing.
use Prim.Native.Nat.{ℕ, zero, suc, ◌≤◌, ◌<◌}
use mathlib.Core.Path.{◌≡◌, refl, ap, sym}
use mathlib.Core.List.{List, ◌∷◌}
use mathlib.Core.Bool.{Bool, true, false}
use mathlib.Core.Option.{Option, none, some}
use native.Mathlib.Omega.{arith}
use lib.ListN.{length}
use Rattle.words.specs.Words.{pick}
use Rattle.framed.specs.Values.{new_frame}
use Rattle.bounded.specs.Views.{where_used, frame_at, text_at, add_if, defined_below, used, entries, frames_used, texts_used}
use Rattle.heap.specs.Words.{frame_used, maker_at, text_used}
use Rattle.heap.specs.Lists.{passing}
use Rattle.heap.specs.Held.{heap_held, slots_held, text_held, frames_held, texts_held, frames_in_use, texts_in_use}
use Rattle.heap.proofs.Lists.{elem_past}
use Rattle.heap.proofs.Held.{frames_length, frame_found, frame_of_used, texts_length, text_found}
use Rattle.allocation.specs.Allocation.{view_held}

nothing_shown : {A : Type 0} (b : Bool) → where_used {A = A} b none ≡ none
nothing_shown true = refl
nothing_shown false = refl

module _ (h t : List ℕ) where
  -- a frame in use shows its maker and slots, one that is not shows nothing
  pub shows_frame : (f : ℕ) → f < 256 → frame_used h f ≡ true → frame_at (view_held h t) f ≡ some (new_frame (maker_at h f) (slots_held h f))
  unfolding frame_at view_held heap_held
  shows_frame f lt e = rw (e, frame_found h f lt) (ap some (frame_of_used h f e))

  pub shows_no_frame : (f : ℕ) → frame_used h f ≡ false → frame_at (view_held h t) f ≡ none
  unfolding frame_at view_held
  shows_no_frame f e = rw e

  pub shows_frame_past : (f : ℕ) → 256 ≤ f → frame_at (view_held h t) f ≡ none
  unfolding frame_at view_held heap_held
  shows_frame_past f le = rw (elem_past (frames_held h) f (let l = frames_length h in omega arith)) (nothing_shown (frame_used h f))

  pub shows_text : (k : ℕ) → k < 256 → text_used h k ≡ true → text_at (view_held h t) k ≡ some (text_held h t k)
  unfolding text_at view_held heap_held
  shows_text k lt e = rw (e, text_found h t k lt)

  pub shows_no_text : (k : ℕ) → text_used h k ≡ false → text_at (view_held h t) k ≡ none
  unfolding text_at view_held
  shows_no_text k e = rw e

  pub shows_text_past : (k : ℕ) → 256 ≤ k → text_at (view_held h t) k ≡ none
  unfolding text_at view_held heap_held
  shows_text_past k le = rw (elem_past (texts_held h t) k (let l = texts_length h t in omega arith)) (nothing_shown (text_used h k))

-- a partial function that is defined where a test passes
counted : {A : Type 0} (H : ℕ → Option A) (g : ℕ → A) (t : ℕ → Bool) (n : ℕ)
    → ((k : ℕ) → k < n → t k ≡ true → H k ≡ some (g k)) → ((k : ℕ) → t k ≡ false → H k ≡ none) → defined_below H n ≡ passing t n
unfolding passing
counted H g t zero p q = refl
counted {A} H g t (suc n) p q = go (t n) refl (counted H g t n (λ k l. p k (omega arith)) q)
  where
    go : (b : Bool) → t n ≡ b → defined_below H n ≡ passing t n → add_if (H n) n (defined_below H n) ≡ pick b (n ∷ passing t n) (passing t n)
    go true e ih = rw (p n (omega arith) e, ih)
    go false e ih = rw (q n e, ih)

module _ (h t : List ℕ) where
  pub frames_counted : length (frames_in_use h) ≡ frames_used (view_held h t)
  unfolding frames_used used entries frames_in_use
  frames_counted =
      ap length (sym (counted (frame_at (view_held h t)) (λ f. new_frame (maker_at h f) (slots_held h f)) (frame_used h) 256 (shows_frame h t) (shows_no_frame h t)))

  pub texts_counted : length (texts_in_use h) ≡ texts_used (view_held h t)
  unfolding texts_used used entries texts_in_use
  texts_counted =
      ap length (sym (counted (text_at (view_held h t)) (λ k. text_held h t k) (text_used h) 256 (shows_text h t) (shows_no_text h t)))
