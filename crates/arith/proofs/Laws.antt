-- One law for each way through the functions of this crate. Assumes nothing.
use Prim.Native.Nat.{ℕ, zero, suc, ◌-◌, ◌<◌, ◌≤◌, ◌^◌}
use mathlib.Core.Path.{◌≡◌, refl, sym, ap, ◌∙◌}
use mathlib.Core.Bool.{not}
use native.Mathlib.Omega.{arith}
use native.Mathlib.Decide.{ℕ_discrete, dec_le}
use lib.IntN.{ℤ, pos, negsuc}
use lib.Signed.{mag, quot_z}
use lib.Dec.{eqb}
use mir.Syntax.{w32}
use mir.Val.{SFits, of_z}
use borrow.Author.Tests.{lt-ltb, le-ltb, eq-eqb, ne_eqb}
use Rattle.std.specs.Prelude.{Option, None, Some, SomeIff, Result}
use Rattle.std.specs.Option.{ok_or}
use Rattle.std.specs.Int.{CanDivide}
use Rattle.framed.specs.declared.End.{End}
use Rattle.framed.specs.Values.{truth, same_integer}
use Rattle.framed.specs.Machine.{◌>>=◌, quotient}
use Rattle.bounded.specs.Operations.{ranged}
use Rattle.arith.specs.Arith.{outcome, divided, nonzero}

-- ---- plus, minus, times, over

-- what 32 bits hold is in range
pub exact : (z : ℤ) (o : Option ℤ) (r : Result ℤ End) → SomeIff o (SFits w32 z) z → r ≡ ok_or o End.IntegerRange → outcome r ≡ ranged z
unfolding ranged
exact z None r n e = rw (e, le-ltb (mag z) (2 ^ 31) (go (dec_le (2 ^ 31) (mag z))))
  where
    go : Dec (2 ^ 31 ≤ mag z) → 2 ^ 31 ≤ mag z
    go (yes le) = le
    go (no no_le) = absurd (n (record { sfits = omega arith }))
exact z (Some y) r (f, q) e = rw (e, q, lt-ltb (mag z) (2 ^ 31) f.sfits)

-- the bits are 0 exactly where the number is
pub over_zero : (y z : ℤ) → SFits w32 z → of_z w32 z ≡ 0 → outcome (Result.Err End.DivisorZero) ≡ divided y z
unfolding divided quotient ◌>>=◌
over_zero y (pos zero) h e = refl
over_zero y (pos (suc n)) h e = absurd (never n e)
  where
    never : (n : ℕ) → suc n ≡ 0 → ⊥
    never n e = omega arith
over_zero y (negsuc n) h e = absurd (never n h.sfits e)
  where
    never : (n : ℕ) → n < 2147483648 → 2 ^ 32 - suc n ≡ 0 → ⊥
    never n h e = omega arith

over_some : (y z : ℤ) → (of_z w32 z ≡ 0 → ⊥) → divided y z ≡ ranged (quot_z y z)
unfolding divided quotient ◌>>=◌
over_some y (pos zero) e = absurd (e refl)
over_some y (pos (suc n)) e = refl
over_some y (negsuc n) e = refl

pub over_exact : (y z : ℤ) (o : Option ℤ) (r : Result ℤ End) → (of_z w32 z ≡ 0 → ⊥) → SomeIff o (CanDivide w32 y z) (quot_z y z) → r ≡ ok_or o End.IntegerRange → outcome r ≡ divided y z
over_exact y z o r nz s e = rw (over_some y z nz) (exact (quot_z y z) o r (go o s) e)
  where
    go : (o : Option ℤ) → SomeIff o (CanDivide w32 y z) (quot_z y z) → SomeIff o (SFits w32 (quot_z y z)) (quot_z y z)
    go None n = λ f. n (omega arith, f)
    go (Some x) ((nz, f), q) = (f, q)

-- ---- same, nonzero

pub same_bits : (y z : ℤ) → SFits w32 y → SFits w32 z → eqb (of_z w32 y) (of_z w32 z) ≡ same_integer y z
unfolding same_integer
same_bits (pos m) (pos n) f g = refl
same_bits (pos m) (negsuc n) f g = ne_eqb m (2 ^ 32 - suc n) (λ e. let a : m < 2 ^ 31 = f.sfits in let b : n < 2 ^ 31 = g.sfits in omega arith)
same_bits (negsuc m) (pos n) f g = ne_eqb (2 ^ 32 - suc m) n (λ e. let a : m < 2 ^ 31 = f.sfits in let b : n < 2 ^ 31 = g.sfits in omega arith)
same_bits (negsuc m) (negsuc n) f g = go (ℕ_discrete m n)
  where
    go : Dec (m ≡ n) → eqb (2 ^ 32 - suc m) (2 ^ 32 - suc n) ≡ eqb m n
    go (yes e) = rw e (eq-eqb (2 ^ 32 - suc n) (2 ^ 32 - suc n) refl ∙ sym (eq-eqb n n refl))
    go (no ne) =
        let a : m < 2 ^ 31 = f.sfits in
        let b : n < 2 ^ 31 = g.sfits in
        ne_eqb (2 ^ 32 - suc m) (2 ^ 32 - suc n) (λ e. ne (omega arith)) ∙ sym (ne_eqb m n ne)

pub nonzero_bits : (z : ℤ) → SFits w32 z → not (eqb (of_z w32 z) 0) ≡ nonzero z
unfolding nonzero truth
nonzero_bits (pos zero) f = refl
nonzero_bits (pos (suc n)) f = ap not (ne_eqb (suc n) 0 (omega arith))
nonzero_bits (negsuc n) f = ap not (ne_eqb (2 ^ 32 - suc n) 0 (λ e. let a : n < 2 ^ 31 = f.sfits in omega arith))
