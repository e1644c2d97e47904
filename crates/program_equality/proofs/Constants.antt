-- The constants of the program that program words and literal bytes hold. Assumes nothing.
use mathlib.Core.Path.{◌≡◌}
use mathlib.Core.List.{List}
use Prim.Native.Nat.{ℕ}
use Rattle.framed.specs.Equality.{constants}
use Rattle.trees.specs.Held.{program_held}
use Rattle.operands.proofs.Literals.{same_literals}
use Rattle.program_equality.specs.Agreement.{constants_held}

pub same_constants : (p l : List ℕ) → constants (program_held p l) ≡ constants_held p l
unfolding constants_held
same_constants p l = rw (same_literals p l)
