-- Counting up to 257. Assumes nothing.
use Prim.Native.Nat.{ℕ, min, ◌+◌, ◌-◌, ◌^◌, ◌*◌, ◌/◌, ◌%◌, ◌≤◌, ◌<◌}
use mathlib.Core.Path.{◌≡◌, refl, ◌∙◌, sym}
use native.Mathlib.Omega.{arith}
use native.Mathlib.Decide.{dec_lt}
use lib.Dec.{ltb}
use borrow.Author.Tests.{lt-ltb, le-ltb}
use Rattle.needs.specs.Needs.{cap, both, summed, CapCompares}

pub cap_small : (n : ℕ) → n < 257 → cap n ≡ n
unfolding cap
cap_small n lt = rw (lt-ltb n 257 lt)

pub cap_large : (n : ℕ) → 257 ≤ n → cap n ≡ 257
unfolding cap
cap_large n le = rw (le-ltb n 257 le)

cap_left : (a b : ℕ) → cap (cap a + b) ≡ cap (a + b)
cap_left a b = go (dec_lt a 257)
  where
    go : Dec (a < 257) → cap (cap a + b) ≡ cap (a + b)
    go (yes la) = rw (cap_small a la)
    go (no la) = rw (cap_large a (omega arith)) (cap_large (257 + b) (omega arith) ∙ sym (cap_large (a + b) (omega arith)))

pub cap_right : (a b : ℕ) → cap (a + cap b) ≡ cap (a + b)
cap_right a b = go (dec_lt b 257)
  where
    go : Dec (b < 257) → cap (a + cap b) ≡ cap (a + b)
    go (yes lb) = rw (cap_small b lb)
    go (no lb) = rw (cap_large b (omega arith)) (cap_large (a + 257) (omega arith) ∙ sym (cap_large (a + b) (omega arith)))

pub cap_add : (a b : ℕ) → cap (cap a + cap b) ≡ cap (a + b)
cap_add a b = cap_left a (cap b) ∙ cap_right a b

pub cap_compares : CapCompares
cap_compares limit in_use n le = go (dec_lt n 257)
  where
    go : Dec (n < 257) → ltb limit (in_use + cap n) ≡ ltb limit (in_use + n)
    go (yes l) = rw (cap_small n l)
    go (no l) = rw (cap_large n (omega arith)) (lt-ltb limit (in_use + 257) (omega arith) ∙ sym (lt-ltb limit (in_use + n) (omega arith)))

-- ---- capped

pub capped_is : (a b s r : ℕ) → s ≡ min (a + b) (2 ^ 32 - 1) → r ≡ min s 257 → r ≡ cap (a + b)
capped_is a b s r es er = go (dec_lt (a + b) 257)
  where
    go : Dec (a + b < 257) → r ≡ cap (a + b)
    go (yes lt) = let c = cap_small (a + b) lt in omega arith
    go (no ge) = let c = cap_large (a + b) (omega arith) in omega arith

-- ---- f and t in one number

pub most : (n m : ℕ) → m ≡ cap n → m ≤ 257
most n m e = go (dec_lt n 257)
  where
    go : Dec (n < 257) → m ≤ 257
    go (yes lt) = let z = e ∙ cap_small n lt in omega arith
    go (no ge) = let z = e ∙ cap_large n (omega arith) in omega arith

split_low : (a b : ℕ) → a < 512 → (a + 512 * b) % 512 ≡ a
split_low a b lt = omega arith

split_high : (a b : ℕ) → a < 512 → (a + 512 * b) / 512 ≡ b
split_high a b lt = omega arith

module _ (f n m : ℕ) (e : m ≡ both f n) where
  pub both_frames : (r : ℕ) → r ≡ m % 512 → r ≡ cap f
  unfolding both
  both_frames r er = rw (er, e) (split_low (cap f) (cap n) (let k = most f (cap f) refl in omega arith))

  pub both_texts : (r : ℕ) → r ≡ m / 512 → r ≡ cap n
  unfolding both
  both_texts r er = rw (er, e) (split_high (cap f) (cap n) (let k = most f (cap f) refl in omega arith))

pub both_none : (f n : ℕ) → 0 ≡ both f n → (f ≡ 0) × (n ≡ 0)
both_none f n e = (zero f (sym (both_frames f n 0 e 0 refl)), zero n (sym (both_texts f n 0 e 0 refl)))
  where
    zero : (k : ℕ) → cap k ≡ 0 → k ≡ 0
    zero k z = go (dec_lt k 257)
      where
        go : Dec (k < 257) → k ≡ 0
        go (yes lt) = sym (cap_small k lt) ∙ z
        go (no ge) = absurd (let w = sym (cap_large k (omega arith)) ∙ z in omega arith)

pub plus_sum : (a b x y f u v n : ℕ) → x ≡ a % 512 → y ≡ b % 512 → f ≡ cap (x + y) → u ≡ a / 512 → v ≡ b / 512 → n ≡ cap (u + v) → f + 512 * n ≡ summed a b
unfolding summed
plus_sum a b x y f u v n ex ey ef eu ev en = rw (ef, en, ex, ey, eu, ev)

pub both_sum : (f n g m : ℕ) → summed (both f n) (both g m) ≡ both (f + g) (n + m)
unfolding summed both
both_sum f n g m =
    rw (
      split_low (cap f) (cap n) (let k = most f (cap f) refl in omega arith),
      split_low (cap g) (cap m) (let k = most g (cap g) refl in omega arith),
      split_high (cap f) (cap n) (let k = most f (cap f) refl in omega arith),
      split_high (cap g) (cap m) (let k = most g (cap g) refl in omega arith),
      cap_add f g,
      cap_add n m,
    )
