-- Facts about tests: taking `&&`, `||` and `not` apart and putting them together. Nothing here is about the memories. Assumes nothing.
use mathlib.Core.Path.{◌≡◌, refl}
use mathlib.Core.Logic.{◌≢◌}
use mathlib.Core.Bool.{Bool, true, false, not, ◌&&◌, ◌||◌, false≢true}
use Prim.Native.Nat.{ℕ}
use lib.Dec.{eqb}
use borrow.Author.Tests.{eqb-false, ne_eqb, not-true}

pub split2 : (a b : Bool) → a && b ≡ true → (a ≡ true) × (b ≡ true)
split2 true b e = (refl, e)
split2 false b e = absurd (false≢true e)

pub split3 : (a b c : Bool) → a && b && c ≡ true → (a ≡ true) × (b ≡ true) × (c ≡ true)
split3 a b c e =
    let h = split2 (a && b) c e in
    let g = split2 a b h.0 in
    (g.0, g.1, h.1)

pub split4 : (a b c d : Bool) → a && b && c && d ≡ true → (a ≡ true) × (b ≡ true) × (c ≡ true) × (d ≡ true)
split4 a b c d e =
    let h = split2 (a && b && c) d e in
    let g = split3 a b c h.0 in
    (g.0, g.1, g.2, h.1)

pub or_rest : (a b : Bool) → a || b ≡ true → (a ≡ true → ⊥) → b ≡ true
or_rest true b e n = absurd (n refl)
or_rest false b e n = e

pub or_left : (a b : Bool) → a ≡ true → a || b ≡ true
or_left a b e = rw e

pub or_right : (a b : Bool) → b ≡ true → a || b ≡ true
or_right true b e = refl
or_right false b e = e

-- a test that is asked only where a first one fails
pub or_where : (a b : Bool) → ((a ≡ true → ⊥) → b ≡ true) → a || b ≡ true
or_where true b f = refl
or_where false b f = f (λ e. false≢true e)

pub not_both : (a b : Bool) → not (a && b) ≡ true → a ≡ true → b ≡ true → ⊥
not_both true true e p q = false≢true e
not_both true false e p q = false≢true q
not_both false b e p q = false≢true p

pub both_not : (a b : Bool) → (a ≡ true → b ≡ true → ⊥) → not (a && b) ≡ true
both_not true true f = absurd (f refl refl)
both_not true false f = refl
both_not false b f = refl

pub not_eq : (a b : ℕ) → not (eqb a b) ≡ true → a ≢ b
not_eq a b e = eqb-false a b (not-true (eqb a b) e)

pub eq_not : (a b : ℕ) → a ≢ b → not (eqb a b) ≡ true
eq_not a b ne = rw (ne_eqb a b ne)
