use Prim.Native.Nat.{◌-◌}
use Rattle.operands.proofs.Numbers.{Seek}
use Rattle.operands.proofs.slot_place.Given as goal

abbrev pub invariant-loop-k : goal.invariant-loop-k
invariant-loop-k l = Seek l.h l.a l.n l.name l.end l.k

abbrev pub decreases-loop-k : goal.decreases-loop-k
decreases-loop-k l = l.end - l.k
