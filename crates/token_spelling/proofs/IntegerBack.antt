-- Document 02, A1: the decimal of an integer in range is read again as that integer. Assumes nothing.
use mathlib.Core.Path.{◌≡◌, refl, ◌∙◌}
use mathlib.Core.Bool.{Bool, true, false, false≢true}
use mathlib.Core.List.{List, [], ◌∷◌, ◌++◌}
use Prim.Native.Nat.{ℕ, zero, suc, ◌+◌, ◌-◌, ◌*◌, ◌/◌, ◌%◌, ◌≤◌, ◌<◌}
use native.Mathlib.Omega.{arith}
use lib.IntN.{ℤ, pos, negsuc, neg_ℤ}
use lib.Dec.{ltb}
use borrow.Author.Tests.{eqb-true, eq-eqb, ne_eqb, le-leb, lt-leb, ltb-true, ltb-false}
use Rattle.framed.specs.Common.{while, after, starts, Common}
use Rattle.framed.specs.Bytes.{Classes, class, letter, digit}
use Rattle.framed.specs.Tokens.{number, read_integer, read, next, Tokens}
use Rattle.framed.specs.Values.{digits_within, decimal}
use Rattle.framed.specs.Writer.{token_bytes}
use Rattle.framed.proofs.General.{or_none}
use Rattle.token_spelling.specs.Spelling.{has_constant_class, Lawful, Stops, IntegerBack}
use Rattle.token_spelling.proofs.Lawful.{anchored, by_anchor, name_ends, next_first}
use Rattle.token_spelling.proofs.Runs.{All, all_append, after_more, while_back, after_back}

-- ---- The digits of a number

class_digit : (b : ℕ) → 48 ≤ b → b ≤ 57 → class b ≡ 3
unfolding class Common
class_digit b lo hi =
    rw (
      ne_eqb b 9 (λ e. omega arith),
      ne_eqb b 10 (λ e. omega arith),
      ne_eqb b 13 (λ e. omega arith),
      ne_eqb b 32 (λ e. omega arith),
      lt-leb 65 b (omega arith),
      lt-leb 97 b (omega arith),
      ne_eqb b 95 (λ e. omega arith),
      le-leb 48 b lo,
      le-leb b 57 hi,
    )

number_append : (n : ℕ) (v : List ℕ) (d : ℕ) → number n (v ++ (d ∷ [])) ≡ number n v * 10 + (d - 48)
unfolding number
number_append n [] d = refl
number_append n (e ∷ v) d = number_append (n * 10 + (e - 48)) v d

starts_append : (test : ℕ → Bool) (v w : List ℕ) → starts test v ≡ true → starts test (v ++ w) ≡ true
unfolding starts
starts_append test [] w e = absurd (false≢true e)
starts_append test (b ∷ v) w e = e

-- a `-` directly before a digit belongs to the integer
minus_next : (c : Classes) → Lawful c → (bs : List ℕ) → starts (digit c) bs ≡ true →
    next c (45 ∷ bs) ≡ read_integer (neg_ℤ (pos (number 0 (while (digit c) bs)))) (after (digit c) bs)
unfolding anchored Tokens
minus_next =
    by_anchor
    (λ c. (bs : List ℕ) → starts (digit c) bs ≡ true → next c (45 ∷ bs) ≡ read_integer (neg_ℤ (pos (number 0 (while (digit c) bs)))) (after (digit c) bs))
    (λ c bs e. rw e)

module _ (c : Classes) (l : Lawful c) where
  digit_byte : (k : ℕ) → k < 10 → digit c (48 + k) ≡ true
  unfolding has_constant_class
  digit_byte k h =
      let three = class_digit (48 + k) (omega arith) (omega arith) in
      eq-eqb (c (48 + k)) 3 (l.constant (48 + k) (rw three) ∙ three)

  -- w are digits, and the number that they write is n
  record Digits (n : ℕ) (w : List ℕ) : Type 0 where
    all : All (digit c) w
    some : starts (digit c) w ≡ true
    value : number 0 w ≡ n

  digits_are : (bound n : ℕ) → n < bound → Digits n (digits_within bound n)
  unfolding digits_within number starts
  digits_are zero n h = absurd (omega arith)
  digits_are (suc bound) n h = go (ltb n 10) refl (digits_are bound (n / 10))
    where
      go : (t : Bool) → ltb n 10 ≡ t → (n / 10 < bound → Digits (n / 10) (digits_within bound (n / 10))) →
          Digits n (elim t [ true ↦ (48 + n) ∷ [] | false ↦ digits_within bound (n / 10) ++ ((48 + n % 10) ∷ []) ])
      go true e f =
          let d = digit_byte n (ltb-true n 10 e) in
          record { all = All.more d All.none; some = d; value = omega arith }
      go false e f =
          let q = ltb-false n 10 e in
          let r = f (omega arith) in
          record {
            all = all_append (digit c) (48 + n % 10) r.all (digit_byte (n % 10) (omega arith));
            some = starts_append (digit c) (digits_within bound (n / 10)) ((48 + n % 10) ∷ []) r.some;
            value = number_append 0 (digits_within bound (n / 10)) (48 + n % 10) ∙ rw r.value (omega arith);
          }

  digit_ends : (more : List ℕ) → Stops more → starts (digit c) more ≡ false
  unfolding starts
  digit_ends [] s = refl
  digit_ends (b ∷ bs) s = (or_none (letter c b) (digit c b) (name_ends c l (b ∷ bs) s)).1

  -- ---- Digits are read as their number

  digit_next : (bs : List ℕ) → starts (digit c) bs ≡ true → next c bs ≡ read_integer (pos (number 0 (while (digit c) bs))) (after (digit c) bs)
  unfolding starts read
  digit_next [] e = absurd (false≢true e)
  digit_next (b ∷ bs) e =
      let three = eqb-true (c b) 3 e in
      next_first c l b bs (rw three) ∙ rw (three, after_more (digit c) e bs)

  -- a sign or none, and the digits of n
  signed_read : {n : ℕ} {w : List ℕ} → Digits n w → (sign : ℤ → ℤ) (more : List ℕ) → Stops more →
      read_integer (sign (pos (number 0 (while (digit c) (w ++ more))))) (after (digit c) (w ++ more)) ≡ read_integer (sign (pos n)) more
  signed_read d sign more s =
      let f = digit_ends more s in
      rw (while_back (digit c) more f d.all, after_back (digit c) more f d.all, d.value)

pub integer_back : IntegerBack
unfolding token_bytes decimal read_integer
integer_back c l (pos n) e more s =
    let d = digits_are c l (suc n) n (omega arith) in
    digit_next c l (digits_within (suc n) n ++ more) (starts_append (digit c) (digits_within (suc n) n) more d.some)
    ∙ signed_read c l d (λ z. z) more s
    ∙ rw e
integer_back c l (negsuc n) e more s =
    let d = digits_are c l (suc (suc n)) (suc n) (omega arith) in
    minus_next c l (digits_within (suc (suc n)) (suc n) ++ more) (starts_append (digit c) (digits_within (suc (suc n)) (suc n)) more d.some)
    ∙ signed_read c l d neg_ℤ more s
    ∙ rw e
