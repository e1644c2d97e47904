-- Names have the same number exactly when they have the same bytes, where the table has one of them. Assumes nothing.
use mathlib.Core.Path.{◌≡◌, refl, sym, ap, ◌∙◌}
use mathlib.Core.Bool.{Bool, true, false, ◌||◌, true≢false, false≢true}
use mathlib.Core.List.{List, [], ◌∷◌, ◌++◌}
use Prim.Native.Nat.{ℕ, suc}
use native.Mathlib.Omega.{arith}
use lib.Dec.{eqb}
use lib.IntN.{ℤ}
use borrow.Author.Tests.{eq-eqb, ne_eqb, eqb-true, eqb-false}
use Rattle.framed.specs.Common.{when◌then◌else◌, any, same}
use Rattle.framed.specs.Tokens.{Token, Fixed}
use Rattle.framed.proofs.Lists.{same_self, same_equal}
use Rattle.sweep.proofs.Lists.{or_true, any_both, any_last}
use Rattle.framed.specs.Symbols.{number_in, names_after, name_table}

-- ---- Numbers

number_here : (u : List ℕ) (us : List (List ℕ)) (w : List ℕ) → same u w ≡ true → number_in (u ∷ us) w ≡ 0
unfolding number_in
number_here u us w e = rw (e, number_in)

number_later : (u : List ℕ) (us : List (List ℕ)) (w : List ℕ) → same u w ≡ false → number_in (u ∷ us) w ≡ suc (number_in us w)
unfolding number_in
number_later u us w e = rw (e, number_in)

suc_eqb : (a b : ℕ) → eqb (suc a) (suc b) ≡ eqb a b
suc_eqb a b = go (eqb a b) refl
  where
    up : (a b : ℕ) → a ≡ b → suc a ≡ suc b
    up a b e = omega arith

    down : (a b : ℕ) → (a ≡ b → ⊥) → (suc a ≡ suc b → ⊥)
    down a b n e = n (omega arith)

    go : (t : Bool) → eqb a b ≡ t → eqb (suc a) (suc b) ≡ t
    go true e = eq-eqb (suc a) (suc b) (up a b (eqb-true a b e))
    go false e = ne_eqb (suc a) (suc b) (down a b (eqb-false a b e))

-- a name that the table has
pub equal_numbers : (table : List (List ℕ)) (w v : List ℕ) → any (same v) table ≡ true → eqb (number_in table w) (number_in table v) ≡ same w v
unfolding any
equal_numbers [] w v e = absurd (false≢true e)
equal_numbers (u ∷ us) w v e = go (same u w) refl (same u v) refl (λ h. equal_numbers us w v h) e
  where
    zero_suc : (n : ℕ) → (0 ≡ suc n → ⊥)
    zero_suc n e = omega arith

    suc_zero : (n : ℕ) → (suc n ≡ 0 → ⊥)
    suc_zero n e = omega arith

    swap : (x y : List ℕ) (t : Bool) → same x y ≡ false → same y x ≡ false
    swap x y t e = other (same y x) refl
      where
        other : (t : Bool) → same y x ≡ t → same y x ≡ false
        other true h = absurd (true≢false (sym (same_self x) ∙ ap (same x) (sym (same_equal y x h)) ∙ e))
        other false h = h

    go : (t : Bool) → same u w ≡ t → (r : Bool) → same u v ≡ r → (any (same v) us ≡ true → eqb (number_in us w) (number_in us v) ≡ same w v)
        → (same v u || any (same v) us) ≡ true → eqb (number_in (u ∷ us) w) (number_in (u ∷ us) v) ≡ same w v
    go true a true b i k = rw (number_here u us w a, number_here u us v b, ← same_equal u w a, ← same_equal u v b) (sym (same_self u))
    go true a false b i k = rw (number_here u us w a, number_later u us v b, ← same_equal u w a, b) (ne_eqb 0 (suc (number_in us v)) (zero_suc (number_in us v)))
    go false a true b i k = rw (number_later u us w a, number_here u us v b, ← same_equal u v b, swap u w true a) (ne_eqb (suc (number_in us w)) 0 (suc_zero (number_in us w)))
    go false a false b i k =
        rw (number_later u us w a, number_later u us v b) (suc_eqb (number_in us w) (number_in us v) ∙ i (sym (ap (λ (t : Bool). t || any (same v) us) (swap u v true b)) ∙ k))

-- ---- The table has the names of the tokens

pub data Known (table : List (List ℕ)) : List Token → Type 0 where
  nothing : Known table []
  name : {w : List ℕ} {ts : List Token} → any (same w) table ≡ true → Known table ts → Known table (Token.name w ∷ ts)
  integer : {z : ℤ} {ts : List Token} → Known table ts → Known table (Token.integer z ∷ ts)
  string : {w : List ℕ} {ts : List Token} → Known table ts → Known table (Token.string w ∷ ts)
  code : {ts : List Token} → Known table ts → Known table (Token.code ∷ ts)
  fixed : {f : Fixed} {ts : List Token} → Known table ts → Known table (Token.fixed f ∷ ts)

any_before : (test : List ℕ → Bool) (xs ys : List (List ℕ)) → any test xs ≡ true → any test (xs ++ ys) ≡ true
any_before test xs ys e = any_both test xs ys ∙ ap (λ (t : Bool). t || any test ys) e

any_added : (test : List ℕ → Bool) (xs : List (List ℕ)) (y : List ℕ) → test y ≡ true → any test (xs ++ (y ∷ [])) ≡ true
any_added test xs y e = any_last test xs y ∙ ap (λ (t : Bool). any test xs || t) e ∙ or_true (any test xs)

module _ (test : List ℕ → Bool) where
  kept : (table : List (List ℕ)) (ts : List Token) → any test table ≡ true → any test (names_after table ts) ≡ true
  unfolding names_after
  kept table [] e = e
  kept table (Token.name w ∷ ts) e = go (any (same w) table) (kept table ts e) (kept (table ++ (w ∷ [])) ts (any_before test table (w ∷ []) e))
    where
      go : (t : Bool) → any test (names_after table ts) ≡ true → any test (names_after (table ++ (w ∷ [])) ts) ≡ true → any test (names_after (when t then table else table ++ (w ∷ [])) ts) ≡ true
      go true a b = a
      go false a b = b
  kept table (Token.integer z ∷ ts) e = kept table ts e
  kept table (Token.string w ∷ ts) e = kept table ts e
  kept table (Token.code ∷ ts) e = kept table ts e
  kept table (Token.fixed f ∷ ts) e = kept table ts e

all_known : (table : List (List ℕ)) (ts : List Token) → Known (names_after table ts) ts
unfolding names_after
all_known table [] = nothing
all_known table (Token.name w ∷ ts) = go (any (same w) table) refl (all_known table ts) (all_known (table ++ (w ∷ [])) ts)
  where
    go : (t : Bool) → any (same w) table ≡ t → Known (names_after table ts) ts → Known (names_after (table ++ (w ∷ [])) ts) ts → Known (names_after (when t then table else table ++ (w ∷ [])) ts) (Token.name w ∷ ts)
    go true e a b = name (kept (same w) table ts e) a
    go false e a b = name (kept (same w) (table ++ (w ∷ [])) ts (any_added (same w) table w (same_self w))) b
all_known table (Token.integer z ∷ ts) = integer (all_known table ts)
all_known table (Token.string w ∷ ts) = string (all_known table ts)
all_known table (Token.code ∷ ts) = code (all_known table ts)
all_known table (Token.fixed f ∷ ts) = fixed (all_known table ts)

pub table_knows : (ts : List Token) → Known (name_table ts) ts
unfolding name_table
table_knows ts = all_known [] ts
