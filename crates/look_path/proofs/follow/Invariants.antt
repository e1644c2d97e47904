use Prim.Native.Nat.{◌-◌}
use lib.ListN.{length}
use Rattle.look_path.proofs.Laws.{Following}
use Rattle.look_path.proofs.follow.Given as goal

abbrev pub invariant-loop-at : goal.invariant-loop-at
invariant-loop-at l = Following l.p l.h l.s l.from l.initial.v l.v l.at

abbrev pub decreases-loop-at : goal.decreases-loop-at
decreases-loop-at l = length l.s - l.at
