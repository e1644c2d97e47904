use Rattle.slots.proofs.Laws.{Passing}
use Prim.Native.Nat.{◌-◌}
use lib.ListN.{length}
use Rattle.slots.proofs.bad_frame.Given as goal

abbrev pub invariant-loop-at : goal.invariant-loop-at
invariant-loop-at l = Passing l.tokens.source.now l.at

abbrev pub decreases-loop-at : goal.decreases-loop-at
decreases-loop-at l = length l.tokens.source.now - l.at
