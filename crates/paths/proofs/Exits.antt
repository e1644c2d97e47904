-- The exits of a `?`: an end is passed on as it is, and `ok_or` before it. Assumes nothing.
use mathlib.Core.Path.{◌≡◌, refl, ◌∙◌, ap, sym}
use Prim.Native.Nat.{ℕ}
use native.Mathlib.Omega.{arith}
use Rattle.std.specs.Prelude.{Option, Some, None, Result, Ok, Err, ok_or, IsErrAnd}
use Rattle.std.proofs.lemmas.Result.{err_from_is_err_and}
use Rattle.framed.specs.declared.End.{End}
use Rattle.framed.specs.Answers.{end_number, end_met}

module _ {U : Type 0} (q : Result U End) (d : End) (is : IsErrAnd q (λ e. e ≡ d)) where
  pub passed : q ≡ Err d
  passed = let p = err_from_is_err_and q is in p.1 ∙ ap Err p.2

  pub passed_end : {T : Type 0} (r : Result T End) → r ≡ Err d → end_met q ≡ end_met r
  passed_end r e = rw (passed, e)

  -- of `o.ok_or(e)?`
  pub none_left : {T : Type 0} (o : Option T) (e : End) (r : Result T End) → r ≡ ok_or o e → r ≡ Err d → (o ≡ None) × (q ≡ Err e)
  none_left None e r v w = (refl, cc (passed))
  none_left (Some x) e r v w = absurd (cc)

pub some_left : {T : Type 0} (o : Option T) (e : End) (r : Result T End) (x : T) → r ≡ ok_or o e → r ≡ Ok x → o ≡ Some x
some_left None e r x v w = cc
some_left (Some y) e r x v w = cc

-- an end is no 0
pub end_positive : (d : End) → end_number d ≡ 0 → ⊥
end_positive End.NoRule e = omega arith
end_positive End.DivisorZero e = omega arith
end_positive End.IntegerRange e = omega arith
end_positive End.TextLength e = omega arith
end_positive End.SlotLimit e = omega arith
end_positive End.FramesFull e = omega arith
end_positive End.TextsFull e = omega arith

pub some_met : {T : Type 0} (r : Result T End) (d : End) → r ≡ Err d → end_met r ≡ 0 → ⊥
some_met r d e z = end_positive d (rw e at z)

pub none_met : {T : Type 0} (r : Result T End) (x : T) → r ≡ Ok x → end_met r ≡ 0
none_met r x e = rw e
