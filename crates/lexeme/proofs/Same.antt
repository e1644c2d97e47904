-- Equal lists by std's test of them. Assumes nothing.
use mathlib.Core.Path.{◌≡◌, refl, ap}
use mathlib.Core.Bool.{Bool, true, false, ◌&&◌}
use mathlib.Core.List.{List, [], ◌∷◌}
use Prim.Native.Nat.{ℕ, suc}
use lib.Dec.{eqb}
use lib.ListN.{length}
use lib.Pointwise.{pointwise}
use Rattle.framed.specs.Common.{same}

pub same_is : (a b : List ℕ) → pointwise eqb a b ≡ same a b
unfolding same
same_is [] [] = refl
same_is [] (y ∷ b) = refl
same_is (x ∷ a) [] = refl
same_is (x ∷ a) (y ∷ b) = rw (same_is a b)

pub unequal : (a b : List ℕ) → (length a ≡ length b → ⊥) → same a b ≡ false
unfolding same
unequal [] [] n = absurd (n refl)
unequal [] (y ∷ b) n = refl
unequal (x ∷ a) [] n = refl
unequal (x ∷ a) (y ∷ b) n = rw (unequal a b (λ e. n (ap suc e))) (either (eqb x y))
  where
    either : (t : Bool) → (t && false) ≡ false
    either true = refl
    either false = refl
