-- Facts about tests and counts over lists. Nothing here is about Framed. Assumes nothing.
use mathlib.Core.Path.{◌≡◌}
use mathlib.Core.Bool.{Bool, false}
use mathlib.Core.List.{List, [], ◌∷◌, ◌++◌}
use Prim.Native.Nat.{ℕ, zero, suc, ◌+◌, ◌<◌}
use native.Mathlib.Omega.{arith}
use lib.ListN.{length, get_or}
use Rattle.framed.specs.Common.{any, total}
use Rattle.framed.proofs.General.{or_none}

pub none_of : {A : Type 0} (test : A → Bool) (d : A) (l : List A) → any test l ≡ false → (j : ℕ) → j < length l → test (get_or l j d) ≡ false
unfolding any
none_of test d [] e j lt = absurd (omega arith)
none_of test d (x ∷ l) e zero lt = (or_none (test x) (any test l) e).0
none_of test d (x ∷ l) e (suc j) lt = none_of test d l (or_none (test x) (any test l) e).1 j (omega arith)

pub total_append : {A : Type 0} (weight : A → ℕ) (l m : List A) → total weight (l ++ m) ≡ total weight l + total weight m
unfolding total
total_append weight [] m = omega arith
total_append weight (x ∷ l) m = omega (arith, total_append weight l m)
