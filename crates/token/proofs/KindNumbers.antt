-- The kind of a token that was read is the answer's kind number. Assumes nothing.
use mathlib.Core.Path.{◌≡◌, refl, sym, ◌∙◌}
use mathlib.Core.Bool.{Bool, true, false}
use mathlib.Core.List.{List, map}
use Prim.Native.Nat.{ℕ, ◌+◌, ◌-◌, ◌<◌, ◌≤◌}
use native.Mathlib.Omega.{arith}
use lib.Dec.{eqb, ltb, eqb→eq}
use lib.ListN.{get_or, get_or-map}
use borrow.Author.Tests.{ltb-true, ltb-false, eqb-true, eqb-false}
use Rattle.framed.specs.Common.{when◌then◌else◌}
use Rattle.framed.specs.Tokens.{Token, Fixed}
use Rattle.source.specs.Positions.{part}
use Rattle.source.proofs.Table.{at}
use Rattle.token.specs.Reading.{signed, fixed_list, fixed_of, operator_kind, fixed_kind, token_kind, token_of}

-- a test at each of the 25 fixed tokens, which antt computes
right : ℕ → ℕ → Bool
right k x = eqb x k

fixed_is : (k : ℕ) → k < 25 → fixed_kind (fixed_of k) ≡ k
unfolding right fixed_of fixed_list fixed_kind operator_kind
fixed_is k l = sym (get_or-map fixed_kind fixed_list k Fixed.frame) ∙ eqb→eq (get_or (map fixed_kind fixed_list) k 0) k (at right (map fixed_kind fixed_list) tt k l)

pub kind_is : (s : List ℕ) (a p w k : ℕ) → k < 29 → token_kind (token_of s k a p w) ≡ k
unfolding token_kind token_of
kind_is s a p w k l = go (ltb k 25) refl (eqb k 25) refl (eqb k 26) refl (eqb k 27) refl
  where
    last : (k : ℕ) → k < 29 → 25 ≤ k → (k ≡ 25 → ⊥) → (k ≡ 26 → ⊥) → (k ≡ 27 → ⊥) → 28 ≡ k
    last k l g d e f = omega arith

    go : (t : Bool) → ltb k 25 ≡ t → (u : Bool) → eqb k 25 ≡ u → (v : Bool) → eqb k 26 ≡ v → (x : Bool) → eqb k 27 ≡ x
        → token_kind (when t then Token.fixed (fixed_of k) else when u then Token.name (part s a p) else when v then Token.integer (signed w)
        else when x then Token.string (part s (a + 1) (p - 1)) else Token.code) ≡ k
    go true e u f v g x h = fixed_is k (ltb-true k 25 e)
    go false e true f v g x h = sym (eqb-true k 25 f)
    go false e false f true g x h = sym (eqb-true k 26 g)
    go false e false f false g true h = sym (eqb-true k 27 h)
    go false e false f false g false h = last k l (ltb-false k 25 e) (eqb-false k 25 f) (eqb-false k 26 g) (eqb-false k 27 h)
