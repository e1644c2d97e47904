-- A made text that is written byte by byte, then taken into use. Assumes nothing.
use Prim.Native.Nat.{ℕ, zero, suc, ◌+◌, ◌*◌, ◌≤◌, ◌<◌}
use mathlib.Core.Path.{◌≡◌, refl, ◌∙◌, ap, subst}
use mathlib.Core.List.{List, [], ◌∷◌, Memᴰ}
use mathlib.Core.Bool.{false}
use native.Mathlib.Omega.{arith}
use lib.ListN.{length, get_or, get_elem?, set}
use lib.Seq.{ext_get_or, sets}
use lib.Dec.{eqb}
use borrow.Author.Tests.{eqb-true, not-false}
use Rattle.words.specs.Words.{set_word}
use Rattle.heap.specs.Words.{text_word, text_used, text_length, text_byte, take_text, set_text_byte}
use Rattle.heap.specs.Lists.{listed}
use Rattle.heap.specs.Held.{heap_held, texts_held, texts_in_use}
use Rattle.heap.specs.Closed.{Sized}
use Rattle.heap.proofs.Lists.{listed_length, listed_at, listed_has, elem_set_same, elem_set_other}
use Rattle.heap.proofs.Laws.{set_byte_local, set_byte_is, set_byte_other}
use Rattle.heap.proofs.Held.{texts_length, take_text_texts, take_text_used, take_text_others, take_text_frames, set_byte_past}
use Rattle.bounded.specs.Views.{text_at, TextWritten}
use Rattle.bounded.specs.Fits.{StringBytes}
use Rattle.allocation.specs.Allocation.{view_held}
use Rattle.frame_form.specs.declared.Limits.{Limits}
use Rattle.state_form.specs.Form.{StateWellFormed}
use Rattle.state_form.proofs.Kept.{set_byte_formed, take_text_formed}
use Rattle.word_store.specs.Store.{write_text}
use Rattle.word_store.proofs.Written.{same_text_at, same_frames_at}

-- ---- The bytes written

module _ (k : ℕ) where
  write_before : (t : List ℕ) (i : ℕ) (bs : List ℕ) → i + length bs ≤ 64 → (j : ℕ) → j < i → text_byte (write_text t k i bs) k j ≡ text_byte t k j
  unfolding write_text
  write_before t i [] le j lt = refl
  write_before t i (b ∷ bs) le j lt =
      write_before (set_text_byte t k i b) (i + 1) bs (omega arith) j (omega arith) ∙ set_byte_other t k i b k j (omega arith) (omega arith) (λ p q. omega arith)

  write_at : (t : List ℕ) (i : ℕ) (bs : List ℕ) → k < 256 → length t ≡ 16384 → i + length bs ≤ 64 → (j : ℕ) → j < length bs → text_byte (write_text t k i bs) k (i + j) ≡ get_or bs j 0
  unfolding write_text
  write_at t i [] hk size le j lt = absurd (omega arith)
  write_at t i (b ∷ bs) hk size le zero lt =
      let e : i + 0 ≡ i = omega arith in
      rw e (write_before (set_text_byte t k i b) (i + 1) bs (omega arith) i (omega arith) ∙ set_byte_is t k i b size hk (omega arith))
  write_at t i (b ∷ bs) hk size le (suc j) lt =
      let e : i + suc j ≡ i + 1 + j = omega arith in
      rw e (write_at (set_text_byte t k i b) (i + 1) bs hk ((set_byte_local t k i b).size ∙ size) (omega arith) j (omega arith))

  pub written_bytes : (t bs : List ℕ) → k < 256 → length t ≡ 16384 → length bs ≤ 64 → listed (text_byte (write_text t k 0 bs) k) (length bs) ≡ bs
  written_bytes t bs hk size le =
      ext_get_or 0 (listed (text_byte (write_text t k 0 bs) k) (length bs)) bs (listed_length _ (length bs)) (λ j jl. at j (let l = listed_length (text_byte (write_text t k 0 bs) k) (length bs) in omega arith))
    where
      at : (j : ℕ) → j < length bs → get_or (listed (text_byte (write_text t k 0 bs) k) (length bs)) j 0 ≡ get_or bs j 0
      at j lt =
          let e : j ≡ 0 + j = omega arith in
          listed_at (text_byte (write_text t k 0 bs) k) (length bs) j 0 lt ∙ ap (text_byte (write_text t k 0 bs) k) e ∙ write_at t 0 bs hk size (omega arith) j lt

  -- as one run of stores
  pub write_stores : (t : List ℕ) (i : ℕ) (bs : List ℕ) → write_text t k i bs ≡ sets t (64 * k + i) bs
  unfolding write_text set_text_byte set_word
  write_stores t i [] = refl
  write_stores t i (b ∷ bs) =
      let e : 64 * k + (i + 1) ≡ suc (64 * k + i) = omega arith in
      write_stores (set t (64 * k + i) b) (i + 1) bs ∙ ap (λ (n : ℕ). sets (set t (64 * k + i) b) n bs) e

-- ---- A text that is not in use

free_length : (h : List ℕ) (k : ℕ) → text_used h k ≡ false → text_length h k ≡ 0
unfolding text_used text_length
free_length h k e = let z : text_word h k ≡ 0 = eqb-true (text_word h k) 0 (not-false (eqb (text_word h k) 0) e) in omega arith

module _ (h : List ℕ) (k : ℕ) (free : text_used h k ≡ false) where
  write_formed : (t : List ℕ) (l : Limits) → StateWellFormed h t l → (i : ℕ) (bs : List ℕ) → i + length bs ≤ 64 → StateWellFormed h (write_text t k i bs) l
  unfolding write_text
  write_formed t l w i [] le = w
  write_formed t l w i (b ∷ bs) le =
      write_formed (set_text_byte t k i b) l (set_byte_formed h t l w k i b (omega arith) (let z = free_length h k free in omega arith)) (i + 1) bs (omega arith)

  write_texts : Sized h → k < 256 → (t : List ℕ) (i : ℕ) (bs : List ℕ) → i + length bs ≤ 64 → texts_held h (write_text t k i bs) ≡ texts_held h t
  unfolding write_text
  write_texts s hk t i [] le = refl
  write_texts s hk t i (b ∷ bs) le =
      write_texts s hk (set_text_byte t k i b) (i + 1) bs (omega arith) ∙ set_byte_past h t s k i b hk (omega arith) (let z = free_length h k free in omega arith)

  module _ (hk : k < 256) (t bs : List ℕ) (hn : length bs ≤ 64) where
    abbrev bytes_after : List ℕ
    bytes_after = write_text t k 0 bs

    abbrev words_after : List ℕ
    words_after = take_text h k (length bs)

    -- a well-formed state stays so
    pub text_formed : (l : Limits) → StateWellFormed h t l → length (texts_in_use h) < l.texts → StringBytes bs → StateWellFormed words_after bytes_after l
    unfolding StringBytes
    text_formed l w room string =
        take_text_formed h bytes_after l (write_formed t l w 0 bs (omega arith)) k (length bs) hk hn free room
        (λ i lt. string _ (subst (λ (l : List ℕ). Memᴰ (text_byte bytes_after k i) l) (written_bytes k t bs hk w.text_size hn)
        (listed_has (text_byte bytes_after k) (length bs) i lt)))

    module _ (s : Sized h) (size : length t ≡ 16384) where
      texts_after : texts_held words_after bytes_after ≡ set (texts_held h t) k bs
      texts_after =
          take_text_texts h s k hk (length bs) hn bytes_after
          ∙ ap (λ (l : List (List ℕ)). set l k (listed (text_byte bytes_after k) (length bs))) (write_texts s hk t 0 bs (omega arith))
          ∙ ap (λ (b : List ℕ). set (texts_held h t) k b) (written_bytes k t bs hk size hn)

      pub text_written : TextWritten (view_held h t) (view_held words_after bytes_after) k bs
      unfolding text_at view_held heap_held
      text_written = record {
        here = rw (take_text_used h s k hk (length bs) hn, texts_after) (elem_set_same (texts_held h t) k bs (let l = texts_length h t in omega arith));
        there = λ j ne. same_text_at h words_after t bytes_after j (λ lt. take_text_others h s k hk (length bs) hn j ne)
            (ap (λ (l : List (List ℕ)). get_elem? l j) texts_after ∙ elem_set_other (texts_held h t) k j bs ne);
        frames = same_frames_at h words_after t bytes_after (take_text_frames h s k hk (length bs) hn);
      }
