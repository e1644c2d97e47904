-- Counts of tests that agree. Assumes nothing.
use Prim.Native.Nat.{ℕ, zero, suc, ◌<◌}
use mathlib.Core.Path.{◌≡◌, refl}
use mathlib.Core.Bool.{Bool}
use native.Mathlib.Omega.{arith}
use Rattle.heap.specs.Lists.{passing}

-- two tests that agree below n
pub passing_same : (t u : ℕ → Bool) (n : ℕ) → ((k : ℕ) → k < n → t k ≡ u k) → passing t n ≡ passing u n
unfolding passing
passing_same t u zero p = refl
passing_same t u (suc n) p = rw (p n (omega arith), passing_same t u n (λ k lt. p k (omega arith)))
