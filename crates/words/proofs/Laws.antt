-- What a read gives after a write, and the loop that tests every number below a bound. Assumes nothing.
use mathlib.Core.Path.{◌≡◌, refl, sym, ap, ◌∙◌}
use mathlib.Core.Logic.{◌≢◌}
use mathlib.Core.Bool.{Bool, true, false, ◌&&◌, false≢true}
use mathlib.Core.List.{List}
use Prim.Native.Nat.{ℕ, zero, suc, ◌+◌, ◌≤◌, ◌<◌}
use native.Mathlib.Omega.{arith}
use native.Mathlib.Numerals.{add-one}
use native.Mathlib.Decide.{ℕ_discrete}
use lib.ListN.{length, length-set, get_or-eq_default}
use lib.Seq.{get_or-set_same, get_or-set_other, set_out}
use Rattle.words.specs.Words.{word, set_word, all_below}

-- ---- Reading and writing

pub word_past : (m : List ℕ) (k : ℕ) → length m ≤ k → 0 ≡ word m k
unfolding word
word_past m k le = sym (get_or-eq_default m 0 {n = k} le)

pub set_past : {A : Type 0} (m : List A) (k : ℕ) (v : A) → length m ≤ k → m ≡ set_word m k v
unfolding set_word
set_past m k v le = sym (set_out m k v le)

pub set_size : (m : List ℕ) (k v : ℕ) → length (set_word m k v) ≡ length m
unfolding set_word
set_size m k v = length-set m k v

-- Reading another place, and reading the place itself. The goal gives the arguments:
-- `word-other _ _ _ _ _ (omega arith) (word_same _ _ _ (omega arith))`
pub word_other : (m : List ℕ) (k j v r : ℕ) → j ≢ k → word m j ≡ r → word (set_word m k v) j ≡ r
unfolding word set_word
word_other m k j v r ne e = get_or-set_other m k j v 0 ne ∙ e

pub word_same : (m : List ℕ) (k v : ℕ) → k < length m → word (set_word m k v) k ≡ v
unfolding word set_word
word_same m k v lt = get_or-set_same m k v 0 lt

-- ---- A loop over a test of every number below n: what has been tested so far

pub record Upto (t : ℕ → Bool) (n i : ℕ) (ok : Bool) : Type 0 where
  pub inside : i ≤ n
  pub so_far : ok ≡ all_below t i

pub upto_start : (t : ℕ → Bool) (n : ℕ) → Upto t n 0 true
unfolding all_below
upto_start t n = record { inside = omega arith; so_far = refl }

pub all_more : (t : ℕ → Bool) (i : ℕ) (ok b : Bool) → ok ≡ all_below t i → b ≡ t i → ok && b ≡ all_below t (i + 1)
unfolding all_below
all_more t i ok b e f = rw (add-one i, e, f)

pub upto_again : (t : ℕ → Bool) (n i : ℕ) (ok b : Bool) → Upto t n i ok → i < n → b ≡ t i → Upto t n (i + 1) (ok && b)
upto_again t n i ok b u lt e = record { inside = omega arith; so_far = all_more t i ok b u.so_far e }

same_count : (n i : ℕ) → i ≤ n → n ≤ i → i ≡ n
same_count n i a b = omega arith

pub upto_done : (t : ℕ → Bool) (n i : ℕ) (ok : Bool) → Upto t n i ok → n ≤ i → ok ≡ all_below t n
upto_done t n i ok u le = u.so_far ∙ ap (all_below t) (same_count n i u.inside le)

pub upto_end : (t : ℕ → Bool) (n m i : ℕ) (ok : Bool) → Upto t n i ok → n ≤ i → n ≡ m → ok ≡ all_below t m
upto_end t n m i ok u le e = upto_done t n i ok u le ∙ ap (all_below t) e

-- ---- What the test means

and_left : (a b : Bool) → a && b ≡ true → a ≡ true
and_left true b e = refl
and_left false b e = absurd (false≢true e)

and_right : (a b : Bool) → a && b ≡ true → b ≡ true
and_right true b e = e
and_right false b e = absurd (false≢true e)

pub all_means : (t : ℕ → Bool) (n : ℕ) → all_below t n ≡ true → (i : ℕ) → i < n → t i ≡ true
unfolding all_below
all_means t zero e i lt = absurd (omega arith)
all_means t (suc n) e i lt = go (λ l. all_means t n (and_left (all_below t n) (t n) e) i l) (ℕ_discrete i n)
  where
    go : (i < n → t i ≡ true) → Dec (i ≡ n) → t i ≡ true
    go f (yes p) = ap t p ∙ and_right (all_below t n) (t n) e
    go f (no p) = f (omega arith)

pub all_if : (t : ℕ → Bool) (n : ℕ) → ((i : ℕ) → i < n → t i ≡ true) → all_below t n ≡ true
unfolding all_below
all_if t zero f = refl
all_if t (suc n) f = rw (all_if t n (λ i lt. f i (omega arith)), f n (omega arith))
