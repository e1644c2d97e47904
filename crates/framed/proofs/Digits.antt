-- The digits of a number by its size, and how many there are. Assumes nothing.
use mathlib.Core.Path.{◌≡◌, ◌∙◌, ap, sym}
use mathlib.Core.Logic.{◌≢◌}
use mathlib.Core.Bool.{true, false}
use mathlib.Core.List.{List, [], ◌∷◌, ◌++◌}
use Prim.Native.Nat.{ℕ, zero, suc, ◌+◌, ◌/◌, ◌%◌, ◌^◌, ◌≤◌, ◌<◌}
use native.Mathlib.Omega.{arith}
use native.Mathlib.Decide.{dec_le}
use lib.ListN.{length, length-append}
use borrow.Author.Tests.{lt-ltb, le-ltb}
use Rattle.framed.specs.Values.{digits_within}

-- ---- One digit, or more

pub digits_one : (b n : ℕ) → n < 10 → digits_within (suc b) n ≡ (48 + n) ∷ []
unfolding digits_within
digits_one b n lt = ap (λ t. elim t [ true ↦ (48 + n) ∷ [] | false ↦ digits_within b (n / 10) ++ ((48 + n % 10) ∷ []) ]) (lt-ltb n 10 lt)

pub digits_more : (b n : ℕ) → 10 ≤ n → digits_within (suc b) n ≡ digits_within b (n / 10) ++ ((48 + n % 10) ∷ [])
unfolding digits_within
digits_more b n le = ap (λ t. elim t [ true ↦ (48 + n) ∷ [] | false ↦ digits_within b (n / 10) ++ ((48 + n % 10) ∷ []) ]) (le-ltb n 10 le)

-- every bound above the number gives the same digits
pub digits_bound : (a b n : ℕ) → n < a → n < b → digits_within a n ≡ digits_within b n
digits_bound zero b n la lb = absurd (omega arith)
digits_bound (suc a) zero n la lb = absurd (omega arith)
digits_bound (suc a) (suc b) n la lb = go (dec_le 10 n) (digits_bound a b (n / 10))
  where
    go : Dec (10 ≤ n) → (n / 10 < a → n / 10 < b → digits_within a (n / 10) ≡ digits_within b (n / 10)) → digits_within (suc a) n ≡ digits_within (suc b) n
    go (yes le) ih =
        digits_more a n le ∙ ap (λ (ds : List ℕ). ds ++ ((48 + n % 10) ∷ [])) (ih (omega arith) (omega arith)) ∙ sym (digits_more b n le)
    go (no lt) ih = digits_one a n (omega arith) ∙ sym (digits_one b n (omega arith))

-- ---- How many

length_one : (b n : ℕ) → n < 10 → length (digits_within (suc b) n) ≡ 1
length_one b n lt = ap length (digits_one b n lt)

length_more : (b n : ℕ) → 10 ≤ n → length (digits_within (suc b) n) ≡ length (digits_within b (n / 10)) + 1
length_more b n le = ap length (digits_more b n le) ∙ length-append (digits_within b (n / 10)) ((48 + n % 10) ∷ [])

-- at most k + 1 below 10 ^ (k + 1)
pub digits_few : (bound n k : ℕ) → n < 10 ^ suc k → length (digits_within bound n) ≤ suc k
unfolding digits_within
digits_few zero n k lt = omega arith
digits_few (suc bound) n k lt = go (dec_le 10 n) k lt (digits_few bound (n / 10))
  where
    go : Dec (10 ≤ n) → (k : ℕ) → n < 10 ^ suc k → ((j : ℕ) → n / 10 < 10 ^ suc j → length (digits_within bound (n / 10)) ≤ suc j) →
        length (digits_within (suc bound) n) ≤ suc k
    go (no less) k lt ih = let e = length_one bound n (omega arith) in omega arith
    go (yes le) zero lt ih = absurd (omega arith)
    go (yes le) (suc k) lt ih =
        let i = ih k (omega arith) in
        let e = length_more bound n le in
        omega arith

-- exactly k + 1 where the number is also at least 10 ^ k, or k is 0
pub digits_count : (k n : ℕ) → (k ≢ 0 → 10 ^ k ≤ n) → n < 10 ^ suc k → length (digits_within (suc n) n) ≡ suc k
digits_count zero n low high = length_one n n (omega arith)
digits_count (suc k) n low high = go (digits_count k (n / 10))
  where
    go : ((k ≢ 0 → 10 ^ k ≤ n / 10) → n / 10 < 10 ^ suc k → length (digits_within (suc (n / 10)) (n / 10)) ≡ suc k) →
        length (digits_within (suc n) n) ≡ suc (suc k)
    go ih =
        let l = low (λ e. absurd (omega arith)) in
        let i = ih (λ z. omega arith) (omega arith) in
        let b = ap length (digits_bound n (suc (n / 10)) (n / 10) (omega arith) (omega arith)) in
        let e = length_more n n (omega arith) in
        omega arith
