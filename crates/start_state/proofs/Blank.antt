-- Cleared memories: no frame and no text is in use, and the header has self and program integer 0 and position 0. Assumes nothing.
use mathlib.Core.Path.{◌≡◌, refl, sym, ◌∙◌}
use mathlib.Core.Bool.{false}
use mathlib.Core.List.{List}
use Prim.Native.Nat.{ℕ, ◌+◌, ◌*◌, ◌<◌}
use native.Mathlib.Decide.{dec_lt}
use native.Mathlib.Omega.{arith}
use lib.IntN.{pos}
use lib.ListN.{length, length-replicate}
use lib.Seq.{ext_get_or}
use Rattle.words.specs.Words.{word}
use Rattle.framed.specs.declared.Value.{Value}
use Rattle.ints.specs.Ints.{int_of}
use Rattle.heap.specs.Words.{value_of, self_held, program_held, position, frame_word, frame_used, text_word, text_used}
use Rattle.heap.specs.Held.{frames_in_use, texts_in_use}
use Rattle.heap.specs.Closed.{Sized}
use Rattle.heap.proofs.Lists.{zeros_at, passing_none}
use Rattle.heap.proofs.Laws.{frame_word_free, text_word_free}
use Rattle.frame_form.specs.declared.Limits.{Limits}
use Rattle.state_form.specs.Form.{StateWellFormed}
use Rattle.state_form.proofs.Facts.{well_formed_sized}
use Rattle.state_form.proofs.Kept.{blank_formed}
use Rattle.word_store.specs.Store.{clear_header}
use Rattle.word_store.proofs.Header.{clear_local, clear_size, clear_word}
use Rattle.emission.specs.Emit.{cleared}

pub blank_word : (n k : ℕ) → word (cleared n) k ≡ 0
unfolding word cleared
blank_word n k = zeros_at n k

pub blank_size : (n : ℕ) → length (cleared n) ≡ n
unfolding cleared
blank_size n = length-replicate {A = ℕ} n 0

pub blank_state : (l : Limits) → StateWellFormed (cleared 16384) (cleared 16384) l
unfolding cleared
blank_state l = blank_formed l

pub blank_sized : Sized (cleared 16384)
blank_sized = well_formed_sized (blank_state (record { frames = 0; texts = 0; names = 0; literals = 0; codes = 0; instructions = 0 }))

pub blank_frame : (f : ℕ) → frame_used (cleared 16384) f ≡ false
unfolding frame_word
blank_frame f = frame_word_free (cleared 16384) f (blank_word 16384 (128 + 51 * f))

pub blank_text : (k : ℕ) → text_used (cleared 16384) k ≡ false
unfolding text_word
blank_text k = text_word_free (cleared 16384) k (blank_word 16384 (13184 + k))

pub blank_frames : length (frames_in_use (cleared 16384)) ≡ 0
unfolding frames_in_use
blank_frames = passing_none (frame_used (cleared 16384)) 256 (λ k lt. blank_frame k)

pub blank_texts : length (texts_in_use (cleared 16384)) ≡ 0
unfolding texts_in_use
blank_texts = passing_none (text_used (cleared 16384)) 256 (λ k lt. blank_text k)

zero_value : value_of 0 0 ≡ Value.Int (pos 0)
unfolding value_of int_of
zero_value = refl

-- ---- A header of zeros

pub self_zero : (h : List ℕ) → ((k : ℕ) → k < 6 → word h k ≡ 0) → self_held h ≡ Value.Int (pos 0)
unfolding self_held
self_zero h z = rw (z 0 (omega arith), z 1 (omega arith)) zero_value

pub program_zero : (h : List ℕ) → ((k : ℕ) → k < 6 → word h k ≡ 0) → program_held h ≡ Value.Int (pos 0)
unfolding program_held
program_zero h z = rw (z 2 (omega arith), z 3 (omega arith)) zero_value

pub position_zero : (h : List ℕ) → ((k : ℕ) → k < 6 → word h k ≡ 0) → position h ≡ 0
unfolding position
position_zero h z = z 4 (omega arith)

pub clear_zero : (h : List ℕ) → length h ≡ 16384 → ((k : ℕ) → k < 6 → word h k ≡ 0) → clear_header h ≡ h
unfolding word
clear_zero h size z = ext_get_or 0 (clear_header h) h (clear_size h) (λ k lt. go k (dec_lt k 6))
  where
    go : (k : ℕ) → Dec (k < 6) → word (clear_header h) k ≡ word h k
    go k (yes lt) = clear_word h k size lt ∙ sym (z k lt)
    go k (no ge) = (clear_local h).away k (λ lo hi. ge hi)
