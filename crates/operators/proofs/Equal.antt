-- One law for each way through equal_values. Assumes nothing.
use Prim.Native.Nat.{ℕ}
use mathlib.Core.Path.{◌≡◌, refl}
use mathlib.Core.Bool.{Bool, false}
use mathlib.Core.List.{List}
use lib.Dec.{eqb}
use lib.IntN.{ℤ}
use Rattle.framed.specs.declared.Text.{Text}
use Rattle.framed.specs.declared.Value.{Value}
use Rattle.framed.specs.Values.{same_integer}
use Rattle.framed.specs.Equality.{Constants, equal_values}
use Rattle.texts.specs.Literals.{literals_held}
use Rattle.texts.specs.Texts.{same_texts}
use Rattle.program_equality.specs.Agreement.{constants_held, codes_agree}

module _ (c : Constants) (made : List (List ℕ)) (v w : Value) where
  module _ (y : ℤ) (ev : v ≡ Value.Int y) where
    pub int_else : ((k : ℤ) → w ≡ Value.Int k → ⊥) → false ≡ equal_values c made v w
    unfolding equal_values
    int_else o = rw ev (go w o)
      where
        go : (u : Value) → ((k : ℤ) → u ≡ Value.Int k → ⊥) → false ≡ equal_values c made (Value.Int y) u
        go (Value.Int z) k = absurd (k z refl)
        go (Value.Text u) k = refl
        go (Value.Code m) k = refl
        go (Value.Frame m) k = refl

    pub int_same : (z a b : ℤ) (r : Bool) → w ≡ Value.Int z → r ≡ same_integer a b → a ≡ y → b ≡ z → r ≡ equal_values c made v w
    unfolding equal_values
    int_same z a b r ew e ea eb = rw (ev, ew, e, ea, eb)

  module _ (x : Text) (ev : v ≡ Value.Text x) where
    pub text_else : ((k : Text) → w ≡ Value.Text k → ⊥) → false ≡ equal_values c made v w
    unfolding equal_values
    text_else o = rw ev (go w o)
      where
        go : (u : Value) → ((k : Text) → u ≡ Value.Text k → ⊥) → false ≡ equal_values c made (Value.Text x) u
        go (Value.Int z) k = refl
        go (Value.Text u) k = absurd (k u refl)
        go (Value.Code m) k = refl
        go (Value.Frame m) k = refl

  module _ (n : ℕ) where
    pub code_else : v ≡ Value.Code n → ((k : ℕ) → w ≡ Value.Code k → ⊥) → false ≡ equal_values c made v w
    unfolding equal_values
    code_else ev o = rw ev (go w o)
      where
        go : (u : Value) → ((k : ℕ) → u ≡ Value.Code k → ⊥) → false ≡ equal_values c made (Value.Code n) u
        go (Value.Int z) k = refl
        go (Value.Text u) k = refl
        go (Value.Code m) k = absurd (k m refl)
        go (Value.Frame m) k = refl

    pub frame_else : v ≡ Value.Frame n → ((k : ℕ) → w ≡ Value.Frame k → ⊥) → false ≡ equal_values c made v w
    unfolding equal_values
    frame_else ev o = rw ev (go w o)
      where
        go : (u : Value) → ((k : ℕ) → u ≡ Value.Frame k → ⊥) → false ≡ equal_values c made (Value.Frame n) u
        go (Value.Int z) k = refl
        go (Value.Text u) k = refl
        go (Value.Code m) k = refl
        go (Value.Frame m) k = absurd (k m refl)

    pub frame_same : (m : ℕ) → v ≡ Value.Frame n → w ≡ Value.Frame m → eqb n m ≡ equal_values c made v w
    unfolding equal_values
    frame_same m ev ew = rw (ev, ew)

-- texts and codes are those that the memories hold
module _ (p l : List ℕ) (made : List (List ℕ)) (v w : Value) where
  pub text_same : (x y : Text) (r : Bool) → v ≡ Value.Text x → w ≡ Value.Text y → r ≡ same_texts (literals_held p l) made x y → r ≡ equal_values (constants_held p l) made v w
  unfolding same_texts equal_values constants_held
  text_same x y r ev ew e = rw (ev, ew, e)

  pub code_same : (n m : ℕ) (r : Bool) → v ≡ Value.Code n → w ≡ Value.Code m → r ≡ codes_agree p l n m → r ≡ equal_values (constants_held p l) made v w
  unfolding codes_agree equal_values constants_held
  code_same n m r ev ew e = rw (ev, ew, e)
