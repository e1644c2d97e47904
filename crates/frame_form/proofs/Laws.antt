-- One law for each way through the functions of this crate that branch. Assumes nothing.
use Prim.Native.Nat.{ℕ, ◌≤◌, ◌<◌}
use mathlib.Core.Path.{◌≡◌, refl}
use mathlib.Core.List.{List}
use mathlib.Core.Bool.{Bool, true, false, ◌&&◌, ◌||◌}
use lib.Dec.{eqb, ltb, leb}
use borrow.Author.Tests.{ne_eqb, le-leb, lt-leb}
use Rattle.heap.specs.Words.{frame_word, slot_count_at, maker_at}
use Rattle.frame_form.specs.declared.Limits.{Limits}
use Rattle.frame_form.specs.Tests.{frame_in_use, text_in_use, value_formed, slots_formed, frame_formed}

-- value_formed
or_false : (b : Bool) → b ≡ b || false
or_false true = refl
or_false false = refl

module _ (h : List ℕ) (l : Limits) (tag n : ℕ) where
  pub value_integer : tag ≡ 0 → true ≡ value_formed h l tag n
  unfolding value_formed
  value_integer e = rw e

  pub value_frame : tag ≡ 4 → (b : Bool) → b ≡ frame_in_use h n → b ≡ value_formed h l tag n
  unfolding value_formed
  value_frame e b eb = rw e eb

  pub value_code : tag ≡ 3 → ltb n l.codes ≡ value_formed h l tag n
  unfolding value_formed
  value_code e = rw e (or_false (ltb n l.codes))

  pub value_literal : tag ≡ 1 → ltb n l.literals ≡ value_formed h l tag n
  unfolding value_formed
  value_literal e = rw e (three (ltb n l.literals))
    where
      three : (b : Bool) → b ≡ b || false || false || false
      three true = refl
      three false = refl

  pub value_text : (tag ≡ 0 → ⊥) → (tag ≡ 4 → ⊥) → (tag ≡ 3 → ⊥) → (tag ≡ 1 → ⊥) → (b : Bool) → b ≡ text_in_use h n → eqb tag 2 && b ≡ value_formed h l tag n
  unfolding value_formed
  value_text n0 n4 n3 n1 b eb = rw (ne_eqb tag 0 n0, ne_eqb tag 4 n4, ne_eqb tag 3 n3, ne_eqb tag 1 n1, ← eb) (two (eqb tag 2 && b))
    where
      two : (b : Bool) → b ≡ b || false || false
      two true = refl
      two false = refl

-- frame_formed
module _ (h : List ℕ) (l : Limits) (f w : ℕ) (ew : w ≡ frame_word h f) where
  pub frame_off : w ≡ 0 → true ≡ frame_formed h l f
  unfolding frame_formed
  frame_off e = rw (← ew, e)

  module _ (ne : w ≡ 0 → ⊥) (n : ℕ) (en : n ≡ slot_count_at h f) where
    pub frame_many : 16 < n → false ≡ frame_formed h l f
    unfolding frame_formed
    frame_many lt = rw (← ew, ne_eqb w 0 ne, ← en, lt-leb n 16 lt)

    pub frame_on : n ≤ 16 → (m : ℕ) (b : Bool) → m ≡ maker_at h f → b ≡ slots_formed h l f n → eqb w 1 && leb m l.instructions && b ≡ frame_formed h l f
    unfolding frame_formed
    frame_on le m b em eb = rw (← ew, ne_eqb w 0 ne, ← en, le-leb n 16 le, em, eb)
