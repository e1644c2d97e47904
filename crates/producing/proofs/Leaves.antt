-- What is left by writing nothing, by one after another, and by a new made text. Assumes nothing.
use Prim.Native.Nat.{ℕ, ◌+◌, ◌*◌, ◌≤◌, ◌<◌}
use mathlib.Core.Path.{◌≡◌, refl, ◌∙◌, ap, sym}
use mathlib.Core.List.{List}
use mathlib.Core.Bool.{true≢false}
use native.Mathlib.Omega.{arith}
use lib.ListN.{length}
use lib.Seq.{sets}
use Rattle.framed.specs.Tree.{Code}
use Rattle.heap.specs.Words.{text_used, take_text}
use Rattle.heap.specs.Held.{frames_in_use, texts_in_use}
use Rattle.heap.specs.Closed.{Sized, FrameInUse, TextInUse}
use Rattle.heap.proofs.Held.{frame_counted, text_counted, take_text_frames, take_text_others, take_text_sized, take_text_count_one}
use Rattle.allocation.specs.Allocation.{next_text}
use Rattle.allocation.proofs.Laws.{next_text_below, next_text_free}
use Rattle.splice.specs.Splice.{splice}
use Rattle.splice.proofs.Laws.{splice_length}
use Rattle.bounded.specs.Bounded.{Bounded}
use Rattle.word_store.specs.Store.{Memories, word_store}
use Rattle.word_store.specs.State.{store_held, state_held}
use Rattle.word_store.proofs.Updates.{KeepsHeader, keeps_text, held_read, held_after}
use Rattle.word_store.proofs.Texts.{write_stores}
use Rattle.producing.specs.Producing.{HeaderKept, HasRoom, Leaves}

pub header_kept : {h h' : List ℕ} → KeepsHeader h h' → HeaderKept h h'
header_kept s = record { agree = λ k lt. s.agree k (omega arith) lt }

pub leaves_none : {h t : List ℕ} (f n : ℕ) → Sized h → length t ≡ 16384 → Leaves h t f n h t
leaves_none f n s e = record {
  header = record { agree = λ k lt. refl };
  stay = λ g u. u;
  stay_text = λ k u. u;
  sized = s;
  text_size = e;
  frames = omega arith;
  texts = omega arith;
}

pub leaves_both : {h t h₁ t₁ h₂ t₂ : List ℕ} {f n f₁ n₁ : ℕ} → Leaves h t f n h₁ t₁ → Leaves h₁ t₁ f₁ n₁ h₂ t₂ → Leaves h t (f + f₁) (n + n₁) h₂ t₂
leaves_both a b = record {
  header = record { agree = λ k lt. b.header.agree k lt ∙ a.header.agree k lt };
  stay = λ g u. b.stay g (a.stay g u);
  stay_text = λ k u. b.stay_text k (a.stay_text k u);
  sized = b.sized;
  text_size = b.text_size;
  frames = let p = a.frames in let q = b.frames in omega arith;
  texts = let p = a.texts in let q = b.texts in omega arith;
}

pub in_use_stay : {h h' : List ℕ} → frames_in_use h' ≡ frames_in_use h → (g : ℕ) → FrameInUse h g → FrameInUse h' g
in_use_stay {h} {h'} e g u = (frame_counted h' g).0 (rw e ((frame_counted h g).1 u))

pub texts_stay : {h h' : List ℕ} → texts_in_use h' ≡ texts_in_use h → (k : ℕ) → TextInUse h k → TextInUse h' k
texts_stay {h} {h'} e k u = (text_counted h' k).0 (rw e ((text_counted h k).1 u))

-- a new made text with these bytes
module _ (h t bs : List ℕ) (s : Sized h) (size : length t ≡ 16384) (short : length bs ≤ 64) where
  abbrev new : ℕ
  new = next_text h

  pub text_store : store_held (take_text h new (length bs)) (splice t (64 * new) bs) ≡ word_store.claim_text (store_held h t) bs
  unfolding state_held splice
  text_store =
      ap (λ (b : List ℕ). store_held (take_text h new (length bs)) b) (let e : 64 * new ≡ 64 * new + 0 = omega arith in ap (λ (a : ℕ). sets t a bs) e ∙ sym (write_stores new t 0 bs))
      ∙ ap (λ (b : Bounded Memories). b.store) ((held_after (λ i. Code.finished) h t s.size).text bs)

  pub text_next : word_store.next_text (store_held h t) ≡ new
  unfolding state_held
  text_next = (held_read (λ i. Code.finished) h t).next_text

  pub text_leaves : HasRoom h 0 1 → Leaves h t 0 1 (take_text h new (length bs)) (splice t (64 * new) bs)
  text_leaves room =
      let few : length (texts_in_use h) < 256 = let q = room.texts in omega arith in
      let below = next_text_below h few in
      let same = take_text_frames h s new below (length bs) short in
      record {
        header = header_kept (keeps_text h new (length bs));
        stay = in_use_stay same.in_use;
        stay_text = stays below few;
        sized = take_text_sized h s new below (length bs) short;
        text_size = splice_length t (64 * new) bs ∙ size;
        frames = let e = ap length same.in_use in omega arith;
        texts = let e = take_text_count_one h s new below (length bs) short (next_text_free h few) in omega arith;
      }
    where
      stays : new < 256 → length (texts_in_use h) < 256 → (k : ℕ) → TextInUse h k → TextInUse (take_text h new (length bs)) k
      stays below few k u = record {
        small = u.small;
        used =
            take_text_others h s new below (length bs) short k
            (λ e. absurd (true≢false (sym u.used ∙ ap (text_used h) e ∙ next_text_free h few)))
            ∙ u.used;
      }
