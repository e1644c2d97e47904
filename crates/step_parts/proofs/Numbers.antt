-- The number of an end that was met. Assumes nothing.
use Prim.Native.Nat.{ℕ}
use mathlib.Core.Path.{◌≡◌, ◌∙◌, sym}
use Rattle.std.specs.Prelude.{Result, Err}
use Rattle.framed.specs.declared.End.{End}
use Rattle.framed.specs.Answers.{end_number, end_met}
use Rattle.paths.proofs.Exits.{end_positive}

pub number_met : {T : Type 0} (r : Result T End) (d : End) (n c : ℕ) → r ≡ Err d → n ≡ end_number d → end_met r ≡ c → n ≡ c
number_met r d n c e en ec = rw en (rw e at ec)

pub number_positive : (n : ℕ) (d : End) → n ≡ end_number d → n ≡ 0 → ⊥
number_positive n d en z = end_positive d (sym en ∙ z)
