-- Facts about options, tests and lists that the proofs here use. Nothing here is about Framed. Assumes nothing.
use mathlib.Core.Path.{◌≡◌, refl}
use mathlib.Core.Bool.{Bool, true, false, not, ◌||◌, true≢false}
use mathlib.Core.List.{List, [], ◌∷◌, ◌++◌}
use mathlib.Core.Option.{Option, none, some}
use Prim.Native.Nat.{ℕ}
use native.Mathlib.Omega.{arith}
use lib.Dec.{T}
use Rattle.framed.specs.Common.{any}

pub none≢some : {A : Type 0} {a : A} → ◌≡◌ {A = Option A} none (some a) → ⊥
none≢some e = let z : ◌≡◌ {A = ℕ} 0 1 = cc in omega arith

pub some≢none : {A : Type 0} {a : A} → ◌≡◌ {A = Option A} (some a) none → ⊥
some≢none e = let z : ◌≡◌ {A = ℕ} 0 1 = cc in omega arith

pub some_inj : {A : Type 0} {a b : A} → some a ≡ some b → a ≡ b
some_inj e = cc

pub is_true : {b : Bool} → b ≡ true → T b
is_true p = rw p tt

pub is_false : {b : Bool} → b ≡ false → T (not b)
is_false p = rw p tt

pub to_true : {b : Bool} → T b → b ≡ true
to_true {b = true} t = refl
to_true {b = false} t = absurd t

pub to_false : {b : Bool} → T (not b) → b ≡ false
to_false {b = true} t = absurd t
to_false {b = false} t = refl

-- neither holds
pub or_none : (a b : Bool) → a || b ≡ false → (a ≡ false) × (b ≡ false)
or_none true b e = absurd (true≢false e)
or_none false b e = (refl, e)

-- no element of two lists passes the test
pub none_append : {A : Type 0} (test : A → Bool) (l m : List A) → any test (l ++ m) ≡ false → (any test l ≡ false) × (any test m ≡ false)
unfolding any
none_append test [] m e = (refl, e)
none_append test (x ∷ l) m e =
    let h = or_none (test x) (any test (l ++ m)) e in
    let g = none_append test l m h.1 in
    (rw (h.0, g.0), g.1)
