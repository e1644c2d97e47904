use Rattle.slots.proofs.Laws.{Collecting}
use Rattle.slots.specs.Checks.{Clear}
use Prim.Native.Nat.{◌-◌}
use lib.ListN.{length}
use Rattle.slots.proofs.bad_slots.Given as goal

abbrev pub invariant-loop-at : goal.invariant-loop-at
invariant-loop-at l = Collecting l.tokens.source.now l.from l.begins l.ends l.n l.depth l.last l.at × Clear l.tokens.source.now l.from l.clear

abbrev pub decreases-loop-at : goal.decreases-loop-at
decreases-loop-at l = length l.tokens.source.now - l.at
