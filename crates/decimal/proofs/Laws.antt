-- The loop that writes digits from the last to the first, their slice, the sign, and how many bytes they are. Assumes nothing.
use Prim.Native.Nat.{ℕ, zero, suc, max, ◌+◌, ◌-◌, ◌*◌, ◌/◌, ◌%◌, ◌^◌, ◌≤◌, ◌<◌}
use mathlib.Core.Path.{◌≡◌, refl, ◌∙◌, ap, sym}
use mathlib.Core.Bool.{true, false}
use mathlib.Core.List.{List, [], ◌∷◌, ◌++◌, append-nil}
use native.Mathlib.Omega.{arith}
use native.Mathlib.Nat.{pow-suc, one-le-pow}
use native.Mathlib.Decide.{ℕ_discrete}
use lib.ListN.{length, set, take, drop, length-set, length-drop}
use lib.Seq.{take_all, drop-cons, drop-length, drop-set-lt, get_or-set_same, append_snoc}
use lib.IntN.{ℤ, pos, negsuc, nat_abs}
use lib.Signed.{le_z, lt_z}
use borrow.Author.Tests.{le-leb, le-ltb}
use mir.Syntax.{w32}
use mir.Val.{to_z, of_z, bool_byte, SFits}
use mir.ValLaws.{to_z-of_z}
use Rattle.framed.specs.Values.{digits_within, decimal}
use Rattle.framed.proofs.Digits.{digits_one, digits_more, digits_bound, digits_count}
use Rattle.decimal.specs.Decimal.{Holds}

-- ---- digits: what is left of the number, before what has been written, gives the whole

pub record Writing (n : ℕ) (bytes : List ℕ) (start m : ℕ) : Type 0 where
  pub low : 2 ≤ start
  pub high : start ≤ 11
  pub fits : m < 10 ^ (start - 1)
  pub size : length bytes ≡ 11
  pub rest : digits_within (suc m) m ++ drop start bytes ≡ digits_within (suc n) n

-- a byte written before those from `start` on
pub drop_set : (bytes : List ℕ) (i b : ℕ) → i < length bytes → drop i (set bytes i b) ≡ b ∷ drop (suc i) bytes
drop_set bytes i b lt =
    let l = length-set bytes i b in
    drop-cons (set bytes i b) i 0 (omega arith)
    ∙ ap (λ (c : ℕ). c ∷ drop (suc i) (set bytes i b)) (get_or-set_same bytes i b 0 lt)
    ∙ ap (λ (l : List ℕ). b ∷ l) (drop-set-lt (suc i) bytes i b (omega arith))

pub writing_start : (n : ℕ) (bytes : List ℕ) → n < 2 ^ 32 → length bytes ≡ 11 → Writing n bytes 11 n
writing_start n bytes lt l = record {
  low = omega arith;
  high = omega arith;
  fits = omega arith;
  size = l;
  rest = ap (λ (k : ℕ). digits_within (suc n) n ++ drop k bytes) (sym l) ∙ ap (λ (ds : List ℕ). digits_within (suc n) n ++ ds) (drop-length bytes) ∙ append-nil (digits_within (suc n) n);
}

module _ (n : ℕ) (bytes : List ℕ) (start m : ℕ) (a : Writing n bytes start m) where
  -- two digits or more want more than one place before the sign's
  pub writing_room : 10 ≤ m → 3 ≤ start
  writing_room le = go (ℕ_discrete start 2)
    where
      go : Dec (start ≡ 2) → 3 ≤ start
      go (yes e) = let f : m < 10 ^ 1 = rw e at a.fits in absurd (omega arith)
      go (no ne) = let l = a.low in omega arith

  pub writing_again : 10 ≤ m → Writing n (set bytes (start - 1) (48 + m % 10)) (start - 1) (m / 10)
  writing_again le =
      let r = writing_room le in
      let h = a.high in
      let z = a.size in
      record {
        low = omega arith;
        high = omega arith;
        fits = power (start - 1 - 1) (rw (← one) at a.fits);
        size = length-set bytes (start - 1) (48 + m % 10) ∙ a.size;
        rest =
            ap (λ (ds : List ℕ). digits_within (suc (m / 10)) (m / 10) ++ ds) (drop_set bytes (start - 1) (48 + m % 10) (omega arith))
            ∙ ap (λ (k : ℕ). digits_within (suc (m / 10)) (m / 10) ++ ((48 + m % 10) ∷ drop k bytes)) back
            ∙ sym (append_snoc (digits_within (suc (m / 10)) (m / 10)) (48 + m % 10) (drop start bytes))
            ∙ ap (λ (ds : List ℕ). ds ++ ((48 + m % 10) ∷ []) ++ drop start bytes) (digits_bound (suc (m / 10)) m (m / 10) (omega arith) (omega arith))
            ∙ ap (λ (ds : List ℕ). ds ++ drop start bytes) (sym (digits_more m m le))
            ∙ a.rest;
      }
    where
      one : suc (start - 1 - 1) ≡ start - 1
      one = let r = writing_room le in omega arith

      back : suc (start - 1) ≡ start
      back = let r = writing_room le in omega arith

      power : (k : ℕ) → m < 10 ^ suc k → m / 10 < 10 ^ k
      power k lt = let e : 10 ^ suc k ≡ 10 ^ k * 10 = pow-suc 10 k in omega arith

  -- the first digit
  pub writing_first : m < 10 → Holds 1 (set bytes (start - 1) (48 + m)) (start - 1) (digits_within (suc n) n)
  writing_first lt =
      let l = a.low in
      let h = a.high in
      let z = a.size in
      record {
        size = length-set bytes (start - 1) (48 + m) ∙ a.size;
        before = omega arith;
        inside = omega arith;
        are =
            drop_set bytes (start - 1) (48 + m) (omega arith)
            ∙ ap (λ (k : ℕ). (48 + m) ∷ drop k bytes) {x = suc (start - 1)} {y = start} (omega arith)
            ∙ ap (λ (ds : List ℕ). ds ++ drop start bytes) (sym (digits_one m m lt))
            ∙ a.rest;
      }

-- ---- The slice of the array from there on is the list

pub held_bytes : (room : ℕ) (bytes : List ℕ) (start : ℕ) (bs : List ℕ) → Holds room bytes start bs → take (11 - start) (drop start bytes) ≡ bs
held_bytes room bytes start bs a =
    let s = a.size in
    let i = a.inside in
    let l = length-drop start bytes in
    take_all (11 - start) (drop start bytes) (omega arith) ∙ a.are

-- ---- decimal and size: the code's integer z is seen as to_z (of_z z), and w is its digits' number

module _ (z : ℤ) (f : SFits w32 z) (w : ℕ) (ew : w ≡ nat_abs (to_z w32 (of_z w32 z))) where
  seen : to_z w32 (of_z w32 z) ≡ z
  seen = to_z-of_z w32 z f

  up_is : le_z (pos 0) (to_z w32 (of_z w32 z)) ≡ true → digits_within (suc w) w ≡ decimal z
  unfolding decimal
  up_is t = go z (ew ∙ ap nat_abs seen) (rw seen at t)
    where
      go : (y : ℤ) → w ≡ nat_abs y → le_z (pos 0) y ≡ true → digits_within (suc w) w ≡ decimal y
      go (pos n) e t = ap (λ (k : ℕ). digits_within (suc k) k) e
      go (negsuc n) e t = cc

  down_is : le_z (pos 0) (to_z w32 (of_z w32 z)) ≡ false → 45 ∷ digits_within (suc w) w ≡ decimal z
  unfolding decimal
  down_is t = go z (ew ∙ ap nat_abs seen) (rw seen at t)
    where
      go : (y : ℤ) → w ≡ nat_abs y → le_z (pos 0) y ≡ false → 45 ∷ digits_within (suc w) w ≡ decimal y
      go (pos n) e t = let l = le-leb 0 n (omega arith) in cc
      go (negsuc n) e t = ap (λ (k : ℕ). 45 ∷ digits_within (suc k) k) e

  pub decimal_up : le_z (pos 0) (to_z w32 (of_z w32 z)) ≡ true → {bytes : List ℕ} {start : ℕ} → Holds 1 bytes start (digits_within (suc w) w) → Holds 0 bytes start (decimal z)
  decimal_up t h = record { size = h.size; before = omega arith; inside = h.inside; are = h.are ∙ up_is t }

  pub decimal_down : le_z (pos 0) (to_z w32 (of_z w32 z)) ≡ false → {bytes : List ℕ} {start : ℕ} → Holds 1 bytes start (digits_within (suc w) w)
      → Holds 0 (set bytes (start - 1) 45) (start - 1) (decimal z)
  decimal_down t {bytes} {start} h =
      let s = h.size in
      let b = h.before in
      let i = h.inside in
      record {
        size = length-set bytes (start - 1) 45 ∙ h.size;
        before = omega arith;
        inside = omega arith;
        are =
            drop_set bytes (start - 1) 45 (omega arith)
            ∙ ap (λ (k : ℕ). 45 ∷ drop k bytes) {x = suc (start - 1)} {y = start} (omega arith)
            ∙ ap (λ (ds : List ℕ). 45 ∷ ds) h.are
            ∙ down_is t;
      }

  -- the sign counts one
  pub size_is : {r s : ℕ} → r ≡ length (digits_within (suc w) w) → s ≡ bool_byte (lt_z (to_z w32 (of_z w32 z)) (pos 0)) → r + s ≡ length (decimal z)
  unfolding decimal
  size_is {r} {s} er es = go z (ew ∙ ap nat_abs seen) (rw seen at es)
    where
      go : (y : ℤ) → w ≡ nat_abs y → s ≡ bool_byte (lt_z y (pos 0)) → r + s ≡ length (decimal y)
      go (pos n) e t = let z : s ≡ 0 = t ∙ ap bool_byte (le-ltb n 0 (omega arith)) in rw (← e) (omega arith)
      go (negsuc n) e t = rw (← e) (omega (arith, t))

-- ---- digit_count: one more than the power of ten that is not above the number, or than 0

pub count_is : (n k : ℕ) {m : ℕ} → m ≡ max n 1 → 10 ^ k ≤ m → m < 10 * 10 ^ k → k + 1 ≡ length (digits_within (suc n) n)
count_is n zero e low high = let d = digits_count 0 n (λ z. absurd (z refl)) (omega arith) in omega arith
count_is n (suc k) e low high =
    let one : 1 ≤ 10 ^ k = one-le-pow k 10 (omega arith) in
    let d = digits_count (suc k) n (λ z. omega arith) (omega arith) in
    omega arith
