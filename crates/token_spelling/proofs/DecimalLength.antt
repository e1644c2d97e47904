-- The decimal of an integer that digits wrote has no more digits than they are. Assumes nothing.
use mathlib.Core.Path.{◌≡◌, refl, subst}
use mathlib.Core.Bool.{Bool, true, false}
use mathlib.Core.List.{List, ◌∷◌}
use Prim.Native.Nat.{ℕ, zero, suc, ◌+◌, ◌-◌, ◌*◌, ◌^◌, ◌≤◌, ◌<◌}
use native.Mathlib.Omega.{arith}
use native.Mathlib.Nat.{pow-suc}
use lib.Arith.{digits_lt}
use lib.Dec.{leb}
use lib.IntN.{pos, neg_ℤ}
use lib.ListN.{length}
use borrow.Author.Tests.{eqb-true, leb-true}
use Rattle.framed.specs.Common.{when◌then◌else◌, member}
use Rattle.framed.specs.Bytes.{class, in_letters, in_digits, space_bytes, mark_bytes, digit}
use Rattle.framed.specs.Tokens.{number}
use Rattle.framed.specs.Values.{decimal}
use Rattle.framed.proofs.Digits.{digits_few}
use Rattle.framed.proofs.Lists.{both}
use Rattle.token_spelling.proofs.Runs.{All}

digit_most : (b : ℕ) → digit class b ≡ true → b ≤ 57
unfolding class
digit_most b e = go (member b space_bytes) (in_letters b) (in_digits b) (member b mark_bytes) refl (eqb-true (class b) 3 e)
  where
    go : (s l d m : Bool) → in_digits b ≡ d → ◌≡◌ {A = ℕ} (when s then 1 else when l then 2 else when d then 3 else when m then 4 else 0) 3 → b ≤ 57
    go true l d m p q = absurd (omega arith)
    go false true d m p q = absurd (omega arith)
    go false false true m p q = leb-true b 57 (both (leb 48 b) (leb b 57) p).1
    go false false false true p q = absurd (omega arith)
    go false false false false p q = absurd (omega arith)

number_below : {ds : List ℕ} → All (digit class) ds → (n k : ℕ) → n < 10 ^ k → number n ds < 10 ^ (k + length ds)
unfolding number
number_below All.none n k h = subst (λ (j : ℕ). n < 10 ^ j) (omega arith) h
number_below (All.more {b} {bs} e a) n k h =
    subst (λ (j : ℕ). number (n * 10 + (b - 48)) bs < 10 ^ j) (omega arith)
    (number_below a (n * 10 + (b - 48)) (suc k) (rw (pow-suc 10 k) (digits_lt h (let m = digit_most b e in omega arith))))

-- the decimal of a number that digits wrote; and of the negative one
pub decimal_length : (d : ℕ) (ds : List ℕ) → All (digit class) (d ∷ ds) → length (decimal (pos (number 0 (d ∷ ds)))) ≤ suc (length ds)
unfolding decimal
decimal_length d ds a =
    digits_few (suc (number 0 (d ∷ ds))) (number 0 (d ∷ ds)) (length ds)
    (subst (λ (j : ℕ). number 0 (d ∷ ds) < 10 ^ j) (omega arith) (number_below a 0 0 (omega arith)))

pub negative_length : (n : ℕ) → length (decimal (neg_ℤ (pos n))) ≤ suc (length (decimal (pos n)))
unfolding decimal
negative_length zero = omega arith
negative_length (suc n) = omega arith
