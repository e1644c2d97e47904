-- The loop that looks for the lowest number that does not pass a test, and what the number is. Assumes nothing.
use Prim.Native.Nat.{ℕ, zero, suc, ◌+◌, ◌-◌, ◌≤◌, ◌<◌}
use mathlib.Core.Path.{◌≡◌, refl, ◌∙◌, ap, sym}
use mathlib.Core.List.{List}
use mathlib.Core.Bool.{Bool, true, false, not}
use native.Mathlib.Omega.{arith}
use native.Mathlib.Decide.{ℕ_discrete, dec_le}
use lib.ListN.{length}
use borrow.Author.Tests.{not-true, not-false}
use Rattle.std.specs.Prelude.{Option, None, Some, MatchOption}
use Rattle.std.specs.Option.{unwrap_or}
use Rattle.words.specs.Words.{pick}
use Rattle.heap.specs.Words.{frame_used, text_used}
use Rattle.heap.specs.Lists.{passing}
use Rattle.heap.specs.Held.{frames_in_use, texts_in_use}
use Rattle.heap.proofs.Lists.{passing_yes, passing_below}
use Rattle.allocation.specs.Allocation.{lowest_from, next_frame, next_text}
use Rattle.allocation.specs.Known.{FullBelow, TextsFull, Full, Knows}

-- ---- The loop: what is found from i on is the answer

pub record Seek (t : ℕ → Bool) (i : ℕ) : Type 0 where
  pub inside : i ≤ 256
  pub rest : lowest_from t (256 - i) i ≡ lowest_from t 256 0

pub seek_start : (t : ℕ → Bool) → Seek t 0
seek_start t = record { inside = omega arith; rest = refl }

module _ (t : ℕ → Bool) (i : ℕ) (a : Seek t i) where
  pub seek_none : 256 ≤ i → 256 ≡ lowest_from t 256 0
  unfolding lowest_from
  seek_none le =
      let s = a.inside in
      let e : 256 - i ≡ 0 = omega arith in
      let q : 256 ≡ i = omega arith in
      q ∙ (rw e at a.rest)

  module _ (lt : i < 256) (b : Bool) (eb : b ≡ t i) where
    seek_turn : pick b (lowest_from t (256 - (i + 1)) (i + 1)) i ≡ lowest_from t 256 0
    unfolding lowest_from
    seek_turn = let e : 256 - i ≡ suc (256 - (i + 1)) = omega arith in rw eb (rw e at a.rest)

    pub seek_here : not b ≡ true → i ≡ lowest_from t 256 0
    seek_here e = rw (not-true b e) at seek_turn

    pub seek_again : not b ≡ false → Seek t (i + 1)
    seek_again e = record { inside = omega arith; rest = rw (not-false b e) at seek_turn }

-- it may begin where all below pass
seek_from : (t : ℕ → Bool) (i : ℕ) → i ≤ 256 → ((k : ℕ) → k < i → t k ≡ true) → Seek t i
seek_from t zero le p = seek_start t
seek_from t (suc i) le p =
    let e : i + 1 ≡ suc i = omega arith in
    rw e at (seek_again t i (seek_from t i (omega arith) (λ k l. p k (omega arith))) (omega arith) true (sym (p i (omega arith))) refl)

-- what `find` gives, from a number on below which all pass
pub lowest_found : (t : ℕ → Bool) (low : ℕ) (r : Option ℕ) → ((k : ℕ) → k < low → (k < 256) × (t k ≡ true))
    → MatchOption r ((k : ℕ) → low ≤ k → k < 256 → t k ≡ true) (λ i. (low ≤ i) × (i < 256) × (t i ≡ false) × ((k : ℕ) → low ≤ k → k < i → t k ≡ true))
    → unwrap_or r 256 ≡ lowest_from t 256 0
lowest_found t low None p m = seek_none t 256 (seek_from t 256 (omega arith) (λ k lt. either k (dec_le low k) lt)) (omega arith)
  where
    either : (k : ℕ) → Dec (low ≤ k) → k < 256 → t k ≡ true
    either k (yes le) lt = m k le lt
    either k (no gt) lt = (p k (omega arith)).1
lowest_found t low (Some i) p (lo, hi, free, before) =
    seek_here t i (seek_from t i (omega arith) (λ k lt. either k (dec_le low k) lt)) hi false (sym free) refl
  where
    either : (k : ℕ) → Dec (low ≤ k) → k < i → t k ≡ true
    either k (yes le) lt = before k le lt
    either k (no gt) lt = (p k (omega arith)).1

pub frames_full : (h : List ℕ) (low : ℕ) → FullBelow h low → (k : ℕ) → k < low → (k < 256) × (frame_used h k ≡ true)
frames_full h low a k lt = ((a.in_use k lt).small, (a.in_use k lt).used)

pub texts_full : (h : List ℕ) (low : ℕ) → TextsFull h low → (k : ℕ) → k < low → (k < 256) × (text_used h k ≡ true)
texts_full h low a k lt = ((a.in_use k lt).small, (a.in_use k lt).used)

-- ---- What the number is

-- m is the first number from i on that does not pass, below i + n; or all n pass, and m is i + n
pub record Lowest (t : ℕ → Bool) (n i m : ℕ) : Type 0 where
  pub from : i ≤ m
  pub bound : m ≤ i + n
  pub before : (k : ℕ) → i ≤ k → k < m → t k ≡ true
  pub free : m < i + n → t m ≡ false

pub lowest_is : (t : ℕ → Bool) (n i : ℕ) → Lowest t n i (lowest_from t n i)
unfolding lowest_from
lowest_is t zero i = record { from = omega arith; bound = omega arith; before = λ k lo hi. absurd (omega arith); free = λ l. absurd (omega arith) }
lowest_is t (suc n) i = go (t i) refl (lowest_from t n (i + 1)) (lowest_is t n (i + 1))
  where
    go : (b : Bool) → t i ≡ b → (m : ℕ) → Lowest t n (i + 1) m → Lowest t (suc n) i (pick b m i)
    go true e m a =
        let l = a.from in
        let u = a.bound in
        record {
          from = omega arith;
          bound = omega arith;
          before = λ k lo hi. past k (ℕ_discrete k i) lo hi;
          free = λ q. a.free (omega arith);
        }
      where
        past : (k : ℕ) → Dec (k ≡ i) → i ≤ k → k < m → t k ≡ true
        past k (yes p) lo hi = ap t p ∙ e
        past k (no p) lo hi = a.before k (omega arith) hi
    go false e m a = record { from = omega arith; bound = omega arith; before = λ k lo hi. absurd (omega arith); free = λ q. e }

-- where all below n pass, n of them are counted
all_counted : (t : ℕ → Bool) (n : ℕ) → ((k : ℕ) → k < n → t k ≡ true) → length (passing t n) ≡ n
unfolding passing
all_counted t zero p = refl
all_counted t (suc n) p = passing_yes t n (p n (omega arith)) ∙ ap suc (all_counted t n (λ k l. p k (omega arith)))

-- where not all below n pass, the lowest that does not is below n
lowest_below : (t : ℕ → Bool) (n : ℕ) → length (passing t n) < n → lowest_from t n 0 < n
lowest_below t n l = go (ℕ_discrete (lowest_from t n 0) n) (lowest_is t n 0)
  where
    go : Dec (lowest_from t n 0 ≡ n) → Lowest t n 0 (lowest_from t n 0) → lowest_from t n 0 < n
    go (yes e) a =
        let c : length (passing t n) ≡ n = all_counted t n (λ k kl. a.before k (omega arith) (omega arith)) in
        absurd (omega arith)
    go (no ne) a = let b = a.bound in omega arith

module _ (h : List ℕ) where
  module _ (room : length (frames_in_use h) < 256) where
    pub next_frame_below : next_frame h < 256
    unfolding next_frame frames_in_use
    next_frame_below = lowest_below (frame_used h) 256 room

    pub next_frame_free : frame_used h (next_frame h) ≡ false
    unfolding next_frame
    next_frame_free = (lowest_is (frame_used h) 256 0).free next_frame_below

  module _ (room : length (texts_in_use h) < 256) where
    pub next_text_below : next_text h < 256
    unfolding next_text texts_in_use
    next_text_below = lowest_below (text_used h) 256 room

    pub next_text_free : text_used h (next_text h) ≡ false
    unfolding next_text
    next_text_free = (lowest_is (text_used h) 256 0).free next_text_below

  -- ---- What is known

  pub none_below : FullBelow h 0
  none_below = record { in_use = λ g lt. absurd (omega arith) }

  pub no_text_below : TextsFull h 0
  no_text_below = record { in_use = λ k lt. absurd (omega arith) }

  pub none_full : Full h 0 0
  none_full = record { frames = none_below; texts = no_text_below }

  pub next_text_full : TextsFull h (next_text h)
  unfolding next_text
  next_text_full =
      let a = lowest_is (text_used h) 256 0 in
      record { in_use = λ k lt. record { small = omega (arith, a.bound); used = a.before k (omega arith) lt } }

  pub next_full : FullBelow h (next_frame h)
  unfolding next_frame
  next_full =
      let a = lowest_is (frame_used h) 256 0 in
      record { in_use = λ g lt. record { small = omega (arith, a.bound); used = a.before g (omega arith) lt } }

  pub always_known : Knows h 0 0 (record { frames = 256; texts = 256; low = 0; least = 0 })
  unfolding frames_in_use texts_in_use
  always_known = record {
    frames = omega (arith, passing_below (frame_used h) 256);
    texts = omega (arith, passing_below (text_used h) 256);
    full = none_full;
  }
