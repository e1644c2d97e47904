-- The sweeps: one law for each way through their loops, and what they leave in the words. Assumes nothing.
use Prim.Native.Nat.{ℕ, zero, suc, ◌+◌, ◌-◌, ◌*◌, ◌≤◌, ◌<◌}
use mathlib.Core.Path.{◌≡◌, refl, ◌∙◌, ap, sym}
use mathlib.Core.Logic.{◌≢◌}
use mathlib.Core.List.{List}
use mathlib.Core.Bool.{Bool, true, false}
use native.Mathlib.Omega.{arith}
use native.Mathlib.Decide.{ℕ_discrete, dec_le}
use lib.ListN.{length, get_or, set}
use lib.Seq.{set-get_or}
use borrow.Author.Tests.{eq-eqb, ne_eqb, eqb-true}
use Rattle.words.specs.Words.{pick, word, set_word}
use Rattle.words.proofs.Laws.{set_size, word_other, word_same}
use Rattle.heap.specs.Words.{frame_word, text_word, free_frame, free_text}
use Rattle.heap.proofs.Lists.{left_more, left_none}
use Rattle.heap.proofs.Laws.{Same}
use Rattle.mark.specs.Reached.{Marked}
use Rattle.collector.specs.Collect.{frame_unmarked, text_unmarked, sweep_from, sweep_frames, sweep_texts, swept}

-- ---- The loops

pub record Sweep (free : List ℕ → ℕ → List ℕ) (off : ℕ → Bool) (h₀ h : List ℕ) (i : ℕ) : Type 0 where
  pub inside : i ≤ 256
  pub size : length h ≡ length h₀
  pub rest : sweep_from free off (256 - i) i h ≡ sweep_from free off 256 0 h₀

pub sweep_start : (free : List ℕ → ℕ → List ℕ) (off : ℕ → Bool) (h : List ℕ) → Sweep free off h h 0
sweep_start free off h = record { inside = omega arith; size = refl; rest = refl }

module _ (free : List ℕ → ℕ → List ℕ) (off : ℕ → Bool) (h₀ h : List ℕ) (i : ℕ) (s : Sweep free off h₀ h i) where
  pub sweep_size : length h ≡ length h₀
  sweep_size = s.size

  sweep_end : 256 ≤ i → h ≡ sweep_from free off 256 0 h₀
  unfolding sweep_from
  sweep_end le = rw (left_none 256 i le) at s.rest

  sweep_on : (h' : List ℕ) → i < 256 → length h' ≡ length h → h' ≡ pick (off i) (free h i) h → Sweep free off h₀ h' (i + 1)
  unfolding sweep_from
  sweep_on h' lt l e = record { inside = omega arith; size = l ∙ s.size; rest = rw e (rw (left_more 256 i lt) at s.rest) }

  pub sweep_keep : (h' : List ℕ) → i < 256 → off i ≡ false → h' ≡ h → Sweep free off h₀ h' (i + 1)
  sweep_keep h' lt f e = sweep_on h' lt (ap length e) (rw f e)

free_frame_size : (h : List ℕ) (f : ℕ) → length (free_frame h f) ≡ length h
unfolding free_frame
free_frame_size h f = set_size h _ _

free_text_size : (h : List ℕ) (k : ℕ) → length (free_text h k) ≡ length h
unfolding free_text
free_text_size h k = set_size h _ _

module _ (m h₀ h : List ℕ) (i j : ℕ) where
  pub frame_off : j ≡ i → get_or m j 0 ≡ 0 → frame_unmarked m i ≡ true
  unfolding frame_unmarked
  frame_off q e = rw (← q, eq-eqb _ _ e)

  pub frame_on : j ≡ i → (get_or m j 0 ≡ 0 → ⊥) → frame_unmarked m i ≡ false
  unfolding frame_unmarked
  frame_on q e = rw (← q, ne_eqb _ _ e)

  pub text_off : j ≡ i → get_or m (256 + j) 0 ≡ 0 → text_unmarked m i ≡ true
  unfolding text_unmarked
  text_off q e = rw (← q, eq-eqb _ _ e)

  pub text_on : j ≡ i → (get_or m (256 + j) 0 ≡ 0 → ⊥) → text_unmarked m i ≡ false
  unfolding text_unmarked
  text_on q e = rw (← q, ne_eqb _ _ e)

module _ (m h₀ h : List ℕ) (i : ℕ) where
  pub frames_clear : Sweep free_frame (frame_unmarked m) h₀ h i → i < 256 → frame_unmarked m i ≡ true → (h₁ h' : List ℕ) → h₁ ≡ free_frame h i → h' ≡ h₁
      → Sweep free_frame (frame_unmarked m) h₀ h' (i + 1)
  frames_clear s lt o h₁ h' e e' = sweep_on free_frame (frame_unmarked m) h₀ h i s h' lt (ap length (e' ∙ e) ∙ free_frame_size h i) (rw o (e' ∙ e))

  pub texts_clear : Sweep free_text (text_unmarked m) h₀ h i → i < 256 → text_unmarked m i ≡ true → (h₁ h' : List ℕ) → h₁ ≡ free_text h i → h' ≡ h₁
      → Sweep free_text (text_unmarked m) h₀ h' (i + 1)
  texts_clear s lt o h₁ h' e e' = sweep_on free_text (text_unmarked m) h₀ h i s h' lt (ap length (e' ∙ e) ∙ free_text_size h i) (rw o (e' ∙ e))

module _ (m h₀ h h' : List ℕ) (i j : ℕ) (s : Sweep free_frame (frame_unmarked m) h₀ h i) (lt : i < 256) (q : j ≡ i) where
  -- by what the code reads of the frame's mark
  pub frame_freed : get_or m j 0 ≡ 0 → (h₁ : List ℕ) → h₁ ≡ free_frame h i → h' ≡ h₁ → Sweep free_frame (frame_unmarked m) h₀ h' (i + 1)
  frame_freed z h₁ e e' = frames_clear m h₀ h i s lt (frame_off m h₀ h i j q z) h₁ h' e e'

  pub frame_kept : (get_or m j 0 ≡ 0 → ⊥) → h' ≡ h → Sweep free_frame (frame_unmarked m) h₀ h' (i + 1)
  frame_kept z e = sweep_keep free_frame (frame_unmarked m) h₀ h i s h' lt (frame_on m h₀ h i j q z) e

module _ (m h₀ h : List ℕ) (i : ℕ) where
  pub frames_done : Sweep free_frame (frame_unmarked m) h₀ h i → 256 ≤ i → h ≡ sweep_frames m h₀
  unfolding sweep_frames
  frames_done s le = sweep_end free_frame (frame_unmarked m) h₀ h i s le

  pub texts_done : Sweep free_text (text_unmarked m) h₀ h i → 256 ≤ i → h ≡ sweep_texts m h₀
  unfolding sweep_texts
  texts_done s le = sweep_end free_text (text_unmarked m) h₀ h i s le

zero_over : (h : List ℕ) (k : ℕ) → word h k ≡ 0 → set_word h k 0 ≡ h
unfolding word set_word
zero_over h k e = ap (λ (x : ℕ). set h k x) (sym e) ∙ set-get_or h k 0

-- ---- What a sweep leaves, where taking i out of use writes 0 at ad i

module _ (free : List ℕ → ℕ → List ℕ) (off : ℕ → Bool) (ad : ℕ → ℕ) (is : (h : List ℕ) (i : ℕ) → free h i ≡ set_word h (ad i) 0) where
  one_size : (b : Bool) (h : List ℕ) (i : ℕ) → length (pick b (free h i) h) ≡ length h
  one_size true h i = rw (is h i) (set_size h (ad i) 0)
  one_size false h i = refl

  one_away : (b : Bool) (h : List ℕ) (i k : ℕ) → k ≢ ad i → word (pick b (free h i) h) k ≡ word h k
  one_away true h i k ne = rw (is h i) (word_other h (ad i) k 0 (word h k) ne refl)
  one_away false h i k ne = refl

  sweep_length : (n i : ℕ) (h : List ℕ) → length (sweep_from free off n i h) ≡ length h
  unfolding sweep_from
  sweep_length zero i h = refl
  sweep_length (suc n) i h = sweep_length n (i + 1) (pick (off i) (free h i) h) ∙ one_size (off i) h i

  -- a word that is not one of those
  sweep_away : (n i : ℕ) (h : List ℕ) (k : ℕ) → ((j : ℕ) → j < i + n → k ≢ ad j) → word (sweep_from free off n i h) k ≡ word h k
  unfolding sweep_from
  sweep_away zero i h k ne = refl
  sweep_away (suc n) i h k ne =
      sweep_away n (i + 1) (pick (off i) (free h i) h) k (λ j lt. ne j (omega arith)) ∙ one_away (off i) h i k (ne i (omega arith))

  module _ (apart : (i j : ℕ) → i ≢ j → ad i ≢ ad j) where
    -- a number before i, or one that does not pass the test, is left alone
    sweep_alone : (n i : ℕ) (h : List ℕ) (g : ℕ) → (i ≤ g → off g ≡ false) → word (sweep_from free off n i h) (ad g) ≡ word h (ad g)
    unfolding sweep_from
    sweep_alone zero i h g o = refl
    sweep_alone (suc n) i h g o =
        sweep_alone n (i + 1) (pick (off i) (free h i) h) g (λ le. o (omega arith)) ∙ go (ℕ_discrete g i)
      where
        go : Dec (g ≡ i) → word (pick (off i) (free h i) h) (ad g) ≡ word h (ad g)
        go (yes e) = let q : off i ≡ false = rw e at (o (omega arith)) in rw q
        go (no ne) = one_away (off i) h i (ad g) (apart g i ne)

    -- one that passes it has 0 then
    sweep_zero : (n i : ℕ) (h : List ℕ) (g : ℕ) → i ≤ g → g < i + n → off g ≡ true → ad g < length h → word (sweep_from free off n i h) (ad g) ≡ 0
    unfolding sweep_from
    sweep_zero zero i h g lo hi o lt = absurd (omega arith)
    sweep_zero (suc n) i h g lo hi o lt = go (ℕ_discrete g i) (sweep_zero n (i + 1) (pick (off i) (free h i) h) g)
      where
        go : Dec (g ≡ i)
            → (i + 1 ≤ g → g < i + 1 + n → off g ≡ true → ad g < length (pick (off i) (free h i) h) → word (sweep_from free off n (i + 1) (pick (off i) (free h i) h)) (ad g) ≡ 0)
            → word (sweep_from free off n (i + 1) (pick (off i) (free h i) h)) (ad g) ≡ 0
        go (yes e) ih =
            sweep_alone n (i + 1) (pick (off i) (free h i) h) g (λ le. absurd (omega arith))
            ∙ rw e (let q : off i ≡ true = rw e at o in let l : ad i < length h = rw e at lt in rw (q, is h i) (word_same h (ad i) 0 l))
        go (no ne) ih = ih (omega arith) (omega arith) o (let l = one_size (off i) h i in omega arith)

  -- where each that passes it has 0, nothing changes
  sweep_still : (n i : ℕ) (h : List ℕ) → ((j : ℕ) → j < i + n → off j ≡ true → word h (ad j) ≡ 0) → sweep_from free off n i h ≡ h
  unfolding sweep_from
  sweep_still zero i h p = refl
  sweep_still (suc n) i h p = rw (one (off i) refl) (sweep_still n (i + 1) h (λ j lt o. p j (omega arith) o))
    where
      one : (b : Bool) → off i ≡ b → pick b (free h i) h ≡ h
      one true e = is h i ∙ zero_over h (ad i) (p i (omega arith) e)
      one false e = refl

-- ---- Both sweeps

frame_is : (h : List ℕ) (f : ℕ) → free_frame h f ≡ set_word h (128 + 51 * f) 0
unfolding free_frame
frame_is h f = refl

text_is : (h : List ℕ) (k : ℕ) → free_text h k ≡ set_word h (13184 + k) 0
unfolding free_text
text_is h k = refl

pub record Swept (m h h' : List ℕ) : Type 0 where
  pub size : length h' ≡ length h
  pub frame_kept : (f : ℕ) → f < 256 → Marked m f → frame_word h' f ≡ frame_word h f
  pub frame_freed : (f : ℕ) → f < 256 → get_or m f 0 ≡ 0 → frame_word h' f ≡ 0
  pub text_kept : (k : ℕ) → k < 256 → Marked m (256 + k) → text_word h' k ≡ text_word h k
  pub text_freed : (k : ℕ) → k < 256 → get_or m (256 + k) 0 ≡ 0 → text_word h' k ≡ 0
  pub header : Same 0 128 h h'
  pub body : (g : ℕ) → g < 256 → Same (129 + 51 * g) (179 + 51 * g) h h'

-- no word inside a frame is the first of another. `omega` finds no proof until the two cases are parted
inside_frame : (f g k : ℕ) → 129 + 51 * g ≤ k → k < 179 + 51 * g → k ≢ 128 + 51 * f
inside_frame f g k lo hi = go (dec_le f g)
  where
    go : Dec (f ≤ g) → k ≢ 128 + 51 * f
    go (yes a) = omega arith
    go (no a) = omega arith

module _ (m h : List ℕ) (long : length h ≡ 16384) where
  abbrev mid : List ℕ
  mid = sweep_frames m h

  mid_size : length mid ≡ length h
  unfolding sweep_frames
  mid_size = sweep_length free_frame (frame_unmarked m) (λ f. 128 + 51 * f) frame_is 256 0 h

  end_size : length (swept m h) ≡ length mid
  unfolding swept sweep_texts
  end_size = sweep_length free_text (text_unmarked m) (λ k. 13184 + k) text_is 256 0 mid

  mid_away : (k : ℕ) → ((f : ℕ) → f < 256 → k ≢ 128 + 51 * f) → word mid k ≡ word h k
  unfolding sweep_frames
  mid_away k ne = sweep_away free_frame (frame_unmarked m) (λ f. 128 + 51 * f) frame_is 256 0 h k (λ f lt. ne f (omega arith))

  end_away : (k : ℕ) → k < 13184 → word (swept m h) k ≡ word mid k
  unfolding swept sweep_texts
  end_away k lt = sweep_away free_text (text_unmarked m) (λ j. 13184 + j) text_is 256 0 mid k (λ j jl. omega arith)

  mid_kept : (f : ℕ) → Marked m f → word mid (128 + 51 * f) ≡ word h (128 + 51 * f)
  unfolding sweep_frames frame_unmarked
  mid_kept f k = sweep_alone free_frame (frame_unmarked m) (λ f. 128 + 51 * f) frame_is (λ i j ne. omega arith) 256 0 h f (λ le. ne_eqb _ _ k)

  mid_freed : (f : ℕ) → f < 256 → get_or m f 0 ≡ 0 → word mid (128 + 51 * f) ≡ 0
  unfolding sweep_frames frame_unmarked
  mid_freed f lt z =
      sweep_zero free_frame (frame_unmarked m) (λ f. 128 + 51 * f) frame_is (λ i j ne. omega arith) 256 0 h f (omega arith) (omega arith) (eq-eqb _ _ z) (omega arith)

  end_kept : (k : ℕ) → Marked m (256 + k) → word (swept m h) (13184 + k) ≡ word mid (13184 + k)
  unfolding swept sweep_texts text_unmarked
  end_kept k s = sweep_alone free_text (text_unmarked m) (λ j. 13184 + j) text_is (λ i j ne. omega arith) 256 0 mid k (λ le. ne_eqb _ _ s)

  end_freed : (k : ℕ) → k < 256 → get_or m (256 + k) 0 ≡ 0 → word (swept m h) (13184 + k) ≡ 0
  unfolding swept sweep_texts text_unmarked
  end_freed k lt z =
      sweep_zero free_text (text_unmarked m) (λ j. 13184 + j) text_is (λ i j ne. omega arith) 256 0 mid k (omega arith) (omega arith) (eq-eqb _ _ z)
      (let l = mid_size in omega arith)

  pub swept_words : Swept m h (swept m h)
  unfolding frame_word text_word
  swept_words = record {
    size = end_size ∙ mid_size;
    frame_kept = λ f lt k. end_away (128 + 51 * f) (omega arith) ∙ mid_kept f k;
    frame_freed = λ f lt z. end_away (128 + 51 * f) (omega arith) ∙ mid_freed f lt z;
    text_kept = λ k lt s. end_kept k s ∙ mid_away (13184 + k) (λ f fl. omega arith);
    text_freed = end_freed;
    header = record { agree = λ k lo hi. end_away k (omega arith) ∙ mid_away k (λ f fl. omega arith) };
    body = λ g gl. record { agree = λ k lo hi. end_away k (omega arith) ∙ mid_away k (λ f fl. inside_frame f g k lo hi) };
  }

  -- where all that is not marked is free already, nothing changes
  pub swept_still : ((f : ℕ) → f < 256 → get_or m f 0 ≡ 0 → frame_word h f ≡ 0) → ((k : ℕ) → k < 256 → get_or m (256 + k) 0 ≡ 0 → text_word h k ≡ 0) → swept m h ≡ h
  unfolding swept sweep_frames sweep_texts frame_unmarked text_unmarked frame_word text_word
  swept_still p q =
      rw (sweep_still free_frame (frame_unmarked m) (λ f. 128 + 51 * f) frame_is 256 0 h (λ f lt o. p f (omega arith) (eqb-true _ _ o)))
      (sweep_still free_text (text_unmarked m) (λ k. 13184 + k) text_is 256 0 h (λ k lt o. q k (omega arith) (eqb-true _ _ o)))
