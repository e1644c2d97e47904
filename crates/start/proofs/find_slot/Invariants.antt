use Rattle.start.proofs.Laws.{Finding}
use Prim.Native.Nat.{◌-◌}
use lib.ListN.{length}
use Rattle.start.proofs.find_slot.Given as goal

abbrev pub invariant-loop-at : goal.invariant-loop-at
invariant-loop-at l = Finding l.tokens.source.now l.from l.name l.depth l.last l.at

abbrev pub decreases-loop-at : goal.decreases-loop-at
decreases-loop-at l = length l.tokens.source.now - l.at
