use Rattle.framed.specs.Bytes.{class}
use Prim.Native.Nat.{◌-◌}
use lib.ListN.{length}
use Rattle.spaces.proofs.Laws.{Skipping}
use Rattle.spaces.proofs.skip.Given as goal

abbrev pub invariant-loop-i : goal.invariant-loop-i
invariant-loop-i l = Skipping class l.s l.at l.i

abbrev pub decreases-loop-i : goal.decreases-loop-i
decreases-loop-i l = length l.s - l.i
