-- Laws of positions: the rest, the byte and the part there. Assumes nothing.
use mathlib.Core.Path.{◌≡◌, refl, sym, ◌∙◌}
use mathlib.Core.Bool.{Bool, false}
use mathlib.Core.List.{List, [], ◌∷◌}
use Prim.Native.Nat.{ℕ, zero, suc, ◌+◌, ◌-◌, ◌<◌, ◌≤◌}
use native.Mathlib.Numerals.{add-one}
use native.Mathlib.Omega.{arith}
use lib.ListN.{length, take, drop, get_or, length-drop, drop_of_length-le}
use lib.Seq.{drop-cons, length-take-le, take_all}
use Rattle.framed.specs.Common.{starts, past_first}
use Rattle.source.specs.Positions.{rest, byte, part}

pub byte_is : (s : List ℕ) (i : ℕ) → get_or s i 0 ≡ byte s i
unfolding byte
byte_is s i = refl

pub rest_at : (s : List ℕ) (i : ℕ) → i < length s → rest s i ≡ byte s i ∷ rest s (i + 1)
unfolding rest byte
rest_at s i l = rw (add-one i) (drop-cons s i 0 l)

pub rest_end : (s : List ℕ) (i : ℕ) → length s ≤ i → rest s i ≡ []
unfolding rest
rest_end s i l = drop_of_length-le s l

pub length_rest : (s : List ℕ) (i : ℕ) → length (rest s i) ≡ length s - i
unfolding rest
length_rest s i = length-drop i s

pub length_part : (s : List ℕ) (a b : ℕ) → a ≤ b → b ≤ length s → length (part s a b) ≡ b - a
unfolding part
length_part s a b l h = length-take-le (b - a) (drop a s) (rw (length-drop a s) (omega arith))

-- parts that end before they begin, begin past the end, or end past it
module _ (s : List ℕ) (a b : ℕ) where
  pub part_none : b ≤ a → [] ≡ part s a b
  unfolding part
  part_none l = rw (eq b a l)
    where
      eq : (b a : ℕ) → b ≤ a → b - a ≡ 0
      eq b a l = omega arith

  pub part_backward : b < a → [] ≡ part s a b
  part_backward l = part_none (omega arith)

  pub part_outside : length s < a → [] ≡ part s a b
  unfolding part
  part_outside l = rw (drop_of_length-le s {i = a} (omega arith)) (sym (take_all (b - a) [] (omega arith)))

  pub part_past : length s < b → take (length s - a) (drop a s) ≡ part s a b
  unfolding part
  part_past l = take_all (length s - a) (drop a s) (rw (length-drop a s) (omega arith)) ∙ sym (take_all (b - a) (drop a s) (rw (length-drop a s) (omega arith)))

-- a test that the rest begins with is a test of the byte there
pub starts_at : (test : ℕ → Bool) → test 0 ≡ false → (s : List ℕ) (j : ℕ) → starts test (rest s j) ≡ test (byte s j)
unfolding rest byte starts
starts_at test z [] zero = sym z
starts_at test z [] (suc j) = sym z
starts_at test z (x ∷ s) zero = refl
starts_at test z (x ∷ s) (suc j) = starts_at test z s j

pub past_rest : (s : List ℕ) (i : ℕ) → i < length s → past_first (rest s i) ≡ rest s (i + 1)
unfolding past_first
past_rest s i l = rw (rest_at s i l)

-- a byte that is not 0 stands before the end
pub before_end : (s : List ℕ) (i : ℕ) → 0 < byte s i → i < length s
unfolding byte
before_end [] i h = absurd (none h)
  where
    none : 0 < 0 → ⊥
    none h = omega arith
before_end (x ∷ s) zero h = omega arith
before_end (x ∷ s) (suc i) h = let l = before_end s i h in omega arith
