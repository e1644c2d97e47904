-- Laws of spaces and comments at a position: each has the form of a place in the code. For every class of bytes `c`. Assumes nothing.
use mathlib.Core.Path.{◌≡◌, refl, sym, ap, ◌∙◌}
use mathlib.Core.Bool.{true, false, ◌&&◌}
use mathlib.Core.List.{List, ◌∷◌}
use Prim.Native.Nat.{ℕ, ◌+◌, ◌-◌, ◌<◌, ◌≤◌, max}
use native.Mathlib.Numerals.{add-one}
use native.Mathlib.Omega.{arith}
use lib.Dec.{eqb}
use lib.ListN.{length}
use borrow.Author.Tests.{eq-eqb, ne_eqb}
use Rattle.framed.specs.Common.{starts}
use Rattle.framed.specs.Bytes.{Classes}
use Rattle.framed.specs.Tokens.{skip, skip_comment}
use Rattle.source.specs.Positions.{rest, byte, At}
use Rattle.source.proofs.Positions.{rest_at, rest_end, starts_at}
use Rattle.spaces.specs.Spaces.{line_feed, source_end, CommentEnds, SkipsOne, Skips}

-- ---- A comment

-- the comment goes on from i as from at
pub record Comment (c : Classes) (s : List ℕ) (at i : ℕ) : Type 0 where
  pub begins : at ≤ i
  pub inside : i ≤ max at (length s)
  pub gone : skip_comment c (rest s at) ≡ skip_comment c (rest s i)

module _ (c : Classes) (b : ℕ) (bs : List ℕ) where
  when_line_feed : eqb b 10 ≡ true → skip_comment c (b ∷ bs) ≡ skip c bs
  unfolding skip
  when_line_feed e = rw (e, skip_comment)

  when_in_line : eqb b 10 ≡ false → skip_comment c (b ∷ bs) ≡ skip_comment c bs
  unfolding skip
  when_in_line e = rw (e, skip_comment)

module _ (c : Classes) (s : List ℕ) (at : ℕ) where
  pub comment_start : Comment c s at at
  comment_start = record { begins = omega arith; inside = omega arith; gone = refl }

  module _ (i b : ℕ) (w : Comment c s at i) (l : i < length s) (is : b ≡ byte s i) where
    first_byte : rest s i ≡ b ∷ rest s (i + 1)
    first_byte = rw is (rest_at s i l)

    pub comment_here : b ≡ 10 → CommentEnds c s at (i + 1)
    comment_here e = record {
      begins = omega (arith, w.begins);
      inside = omega arith;
      ends = rw (add-one i) (line_feed (sym is ∙ e));
      gone = w.gone ∙ ap (skip_comment c) first_byte ∙ when_line_feed c b (rest s (i + 1)) (eq-eqb b 10 e);
    }

    pub comment_again : (b ≡ 10 → ⊥) → Comment c s at (i + 1)
    comment_again e = record {
      begins = omega (arith, w.begins);
      inside = omega arith;
      gone = w.gone ∙ ap (skip_comment c) first_byte ∙ when_in_line c b (rest s (i + 1)) (ne_eqb b 10 e);
    }

  pub comment_done : (i j : ℕ) → Comment c s at i → length s ≤ i → j ≡ max at (length s) → CommentEnds c s at j
  unfolding skip
  comment_done i j w l e = rw (e, ← same_end i w.begins w.inside l) (record { begins = w.begins; inside = w.inside; ends = source_end l; gone = w.gone ∙ rw (rest_end s i l) })
    where
      same_end : (i : ℕ) → at ≤ i → i ≤ max at (length s) → length s ≤ i → i ≡ max at (length s)
      same_end i a b d = omega arith

-- ---- One space or comment

module _ (c : Classes) (b : ℕ) (bs : List ℕ) where
  when_space : eqb (c b) 1 ≡ true → skip c (b ∷ bs) ≡ skip c bs
  unfolding skip
  when_space e = rw (e, skip)

  when_comment : eqb (c b) 1 ≡ false → (eqb b 47 && starts (λ d. eqb d 47) bs) ≡ true → skip c (b ∷ bs) ≡ skip_comment c bs
  unfolding skip
  when_comment e f = rw (e, f, skip)

  when_other : eqb (c b) 1 ≡ false → (eqb b 47 && starts (λ d. eqb d 47) bs) ≡ false → skip c (b ∷ bs) ≡ b ∷ bs
  unfolding skip
  when_other e f = rw (e, f, skip)

module _ (c : Classes) (s : List ℕ) (i b k : ℕ) (is : b ≡ byte s i) (kind : k ≡ c b) (a : At s i) where
  here : rest s i ≡ b ∷ rest s (i + 1)
  here = rw is (rest_at s i a.inside)

  pub skip_space : k ≡ 1 → SkipsOne c s i (i + 1)
  skip_space e = record {
    begins = omega arith;
    inside = omega (arith, a.inside);
    gone = ap (skip c) here ∙ when_space c b (rest s (i + 1)) (eq-eqb (c b) 1 (sym kind ∙ e));
    stays = λ e. absurd (none i e);
  }
    where
      none : (i : ℕ) → i + 1 ≡ i → ⊥
      none i e = omega arith

  skip_none : (k ≡ 1 → ⊥) → (eqb b 47 && eqb (byte s (i + 1)) 47) ≡ false → SkipsOne c s i i
  skip_none e f = record {
    begins = omega arith;
    inside = omega (arith, a.inside);
    gone = refl;
    stays = λ _. ap (skip c) here ∙ when_other c b (rest s (i + 1)) (ne_eqb (c b) 1 (λ g. e (kind ∙ g))) (rw (starts_at (λ d. eqb d 47) refl s (i + 1)) f) ∙ sym here;
  }

  pub skip_no_slash : (k ≡ 1 → ⊥) → (b ≡ 47 → ⊥) → SkipsOne c s i i
  skip_no_slash e f = skip_none e (rw (ne_eqb b 47 f))

  pub skip_one_slash : (k ≡ 1 → ⊥) → b ≡ 47 → (d : ℕ) → d ≡ byte s (i + 1) → (d ≡ 47 → ⊥) → SkipsOne c s i i
  skip_one_slash e f d g h = skip_none e (rw (eq-eqb b 47 f, ← g, ne_eqb d 47 h))

  pub skip_slashes : (k ≡ 1 → ⊥) → b ≡ 47 → (d : ℕ) → d ≡ byte s (i + 1) → d ≡ 47 → (j : ℕ) → CommentEnds c s (i + 1) j → SkipsOne c s i j
  skip_slashes e f d g h j w = record {
    begins = omega (arith, w.begins);
    inside = omega (arith, w.inside, a.inside);
    gone = ap (skip c) here
        ∙ when_comment c b (rest s (i + 1)) (ne_eqb (c b) 1 (λ g. e (kind ∙ g))) (rw (starts_at (λ d. eqb d 47) refl s (i + 1), eq-eqb b 47 f, ← g, eq-eqb d 47 h))
        ∙ w.gone;
    stays = λ e. absurd (none i j e w.begins);
  }
    where
      none : (i j : ℕ) → j ≡ i → i + 1 ≤ j → ⊥
      none i j e l = omega arith

-- ---- All of them

-- what is left to skip gives the same
pub record Skipping (c : Classes) (s : List ℕ) (at i : ℕ) : Type 0 where
  pub begins : at ≤ i
  pub gone : skip c (rest s at) ≡ skip c (rest s i)

module _ (c : Classes) (s : List ℕ) where
  pub skipping_start : (at : ℕ) → Skipping c s at at
  skipping_start at = record { begins = omega arith; gone = refl }

  pub skipping_stop : (at i j : ℕ) → Skipping c s at i → SkipsOne c s i j → j ≡ i → Skips c s at i
  skipping_stop at i j w o e = record { begins = w.begins; gone = w.gone ∙ o.stays e }

  pub skipping_again : (at i j : ℕ) → Skipping c s at i → SkipsOne c s i j → Skipping c s at j
  skipping_again at i j w o = record { begins = omega (arith, w.begins, o.begins); gone = w.gone ∙ o.gone }

  pub skipping_less : (i j : ℕ) → SkipsOne c s i j → i < length s → (j ≡ i → ⊥) → length s - j < length s - i
  skipping_less i j o l n = omega (arith, o.begins)

  pub skipping_done : (at i : ℕ) → Skipping c s at i → length s ≤ i → Skips c s at i
  unfolding skip
  skipping_done at i w l = record { begins = w.begins; gone = w.gone ∙ rw (rest_end s i l) }
