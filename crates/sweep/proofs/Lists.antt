-- Laws of `any` over lists that are put together. Nothing here is about Framed. Assumes nothing.
use mathlib.Core.Path.{◌≡◌, refl, ap, ◌∙◌}
use mathlib.Core.Bool.{Bool, true, false, ◌||◌}
use mathlib.Core.List.{List, [], ◌∷◌, ◌++◌}
use Rattle.framed.specs.Common.{any}

pub or_assoc : (a b c : Bool) → (a || (b || c)) ≡ ((a || b) || c)
or_assoc true b c = refl
or_assoc false b c = refl

pub or_false : (t : Bool) → (t || false) ≡ t
or_false true = refl
or_false false = refl

pub or_true : (t : Bool) → (t || true) ≡ true
or_true true = refl
or_true false = refl

module _ {A : Type 0} (test : A → Bool) where
  pub any_both : (xs ys : List A) → any test (xs ++ ys) ≡ (any test xs || any test ys)
  unfolding any
  any_both [] ys = refl
  any_both (x ∷ xs) ys = rw (any_both xs ys) (or_assoc (test x) (any test xs) (any test ys))

  pub any_last : (xs : List A) (x : A) → any test (xs ++ (x ∷ [])) ≡ (any test xs || test x)
  unfolding any
  any_last xs x = any_both xs (x ∷ []) ∙ ap (λ (t : Bool). any test xs || t) (or_false (test x))
