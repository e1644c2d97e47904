-- A loop that counts the frames in use: how many of the numbers below i pass a test. Assumes nothing.
use Prim.Native.Nat.{ℕ, suc, ◌+◌, ◌≤◌, ◌<◌}
use mathlib.Core.Path.{◌≡◌, refl, ◌∙◌, ap, sym}
use mathlib.Core.List.{List}
use mathlib.Core.Bool.{Bool, true, false}
use native.Mathlib.Omega.{arith}
use native.Mathlib.Numerals.{add-one}
use lib.ListN.{length}
use Rattle.heap.specs.Words.{frame_used}
use Rattle.heap.specs.Lists.{passing}
use Rattle.heap.specs.Held.{frames_in_use}
use Rattle.heap.proofs.Lists.{passing_yes, passing_no}

pub record Tally (t : ℕ → Bool) (i n : ℕ) : Type 0 where
  pub inside : i ≤ 256
  pub so_far : n ≡ length (passing t i)
  pub small : n ≤ i

pub tally_start : (t : ℕ → Bool) → Tally t 0 0
unfolding passing
tally_start t = record { inside = omega arith; so_far = refl; small = omega arith }

module _ (t : ℕ → Bool) (i n : ℕ) (a : Tally t i n) where
  module _ (lt : i < 256) (b : Bool) (eb : b ≡ t i) (m : ℕ) where
    pub tally_yes : b ≡ true → m ≡ n + 1 → Tally t (i + 1) m
    tally_yes e q =
        let s = a.small in
        let l : length (passing t (i + 1)) ≡ suc (length (passing t i)) = ap (λ (j : ℕ). length (passing t j)) (add-one i) ∙ passing_yes t i (sym eb ∙ e) in
        record { inside = omega arith; so_far = omega (arith, a.so_far); small = omega arith }

    pub tally_no : b ≡ false → m ≡ n → Tally t (i + 1) m
    tally_no e q =
        let s = a.small in
        let l : length (passing t (i + 1)) ≡ length (passing t i) = ap (λ (j : ℕ). length (passing t j)) (add-one i) ∙ passing_no t i (sym eb ∙ e) in
        record { inside = omega arith; so_far = omega (arith, a.so_far); small = omega arith }

pub frames_counted : (h : List ℕ) (i n : ℕ) → Tally (frame_used h) i n → 256 ≤ i → n ≡ length (frames_in_use h)
unfolding frames_in_use
frames_counted h i n a le =
    let s = a.inside in
    let q : i ≡ 256 = omega arith in
    a.so_far ∙ ap (λ (j : ℕ). length (passing (frame_used h) j)) q
