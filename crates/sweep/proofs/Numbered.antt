-- The kinds of fixed tokens, and that numbering tokens keeps their kinds. Assumes nothing.
use mathlib.Core.Path.{◌≡◌, refl, ap}
use mathlib.Core.Bool.{false}
use mathlib.Core.List.{List, [], ◌∷◌}
use Prim.Native.Nat.{ℕ, suc, ◌≤◌}
use native.Mathlib.Omega.{arith}
use lib.Dec.{eqb}
use Rattle.framed.specs.Tokens.{Token, Fixed, Operator}
use Rattle.framed.specs.Symbols.{numbered}
use Rattle.token.specs.Reading.{operator_kind, fixed_kind, token_kind}
use Rattle.sweep.specs.Kinds.{kind_of, kinds, symbol_kinds}

pub numbered_kinds : (table : List (List ℕ)) (k c : ℕ) (ts : List Token) → symbol_kinds (numbered table k c ts) ≡ kinds ts
unfolding kinds symbol_kinds numbered kind_of token_kind
numbered_kinds table k c [] = refl
numbered_kinds table k c (Token.name w ∷ ts) = ap (λ (ks : List ℕ). 25 ∷ ks) (numbered_kinds table k c ts)
numbered_kinds table k c (Token.integer z ∷ ts) = ap (λ (ks : List ℕ). 26 ∷ ks) (numbered_kinds table k c ts)
numbered_kinds table k c (Token.string w ∷ ts) = ap (λ (ks : List ℕ). 27 ∷ ks) (numbered_kinds table (suc k) c ts)
numbered_kinds table k c (Token.code ∷ ts) = ap (λ (ks : List ℕ). 28 ∷ ks) (numbered_kinds table k (suc c) ts)
numbered_kinds table k c (Token.fixed f ∷ ts) = ap (λ (ks : List ℕ). token_kind (Token.fixed f) ∷ ks) (numbered_kinds table k c ts)

pub operator_range : (o : Operator) → (16 ≤ operator_kind o) × (operator_kind o ≤ 24)
unfolding operator_kind
operator_range Operator.plus = (omega arith, omega arith)
operator_range Operator.minus = (omega arith, omega arith)
operator_range Operator.times = (omega arith, omega arith)
operator_range Operator.over = (omega arith, omega arith)
operator_range Operator.less = (omega arith, omega arith)
operator_range Operator.join = (omega arith, omega arith)
operator_range Operator.equal = (omega arith, omega arith)
operator_range Operator.and = (omega arith, omega arith)
operator_range Operator.or = (omega arith, omega arith)

pub fixed_below : (f : Fixed) → fixed_kind f ≤ 24
unfolding fixed_kind
fixed_below Fixed.frame = omega arith
fixed_below Fixed.self = omega arith
fixed_below Fixed.show = omega arith
fixed_below Fixed.jump = omega arith
fixed_below Fixed.ifeq = omega arith
fixed_below Fixed.colon = omega arith
fixed_below Fixed.assign = omega arith
fixed_below Fixed.dot = omega arith
fixed_below Fixed.up = omega arith
fixed_below Fixed.bang = omega arith
fixed_below Fixed.semicolon = omega arith
fixed_below Fixed.comma = omega arith
fixed_below Fixed.open_square = omega arith
fixed_below Fixed.close_square = omega arith
fixed_below Fixed.open_curly = omega arith
fixed_below Fixed.close_curly = omega arith
fixed_below (Fixed.operator o) = (operator_range o).1

-- no operator is a dot
pub no_dot_operator : (o : Operator) → eqb (operator_kind o) 7 ≡ false
unfolding operator_kind
no_dot_operator Operator.plus = refl
no_dot_operator Operator.minus = refl
no_dot_operator Operator.times = refl
no_dot_operator Operator.over = refl
no_dot_operator Operator.less = refl
no_dot_operator Operator.join = refl
no_dot_operator Operator.equal = refl
no_dot_operator Operator.and = refl
no_dot_operator Operator.or = refl
