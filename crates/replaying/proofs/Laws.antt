-- The front of a buffer. Assumes nothing.
use mathlib.Core.Path.{◌≡◌}
use mathlib.Core.List.{List}
use Prim.Native.Nat.{ℕ, ◌≤◌}
use lib.ListN.{length, take}
use Rattle.printing.proofs.Laws.{front_size}

pub front_of : (n k : ℕ) (m : List ℕ) → n ≤ k → k ≡ length m → n ≡ length (take n m)
front_of n k m h e = front_size n m (rw (← e) h)
