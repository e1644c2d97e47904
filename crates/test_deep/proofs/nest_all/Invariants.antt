use Prim.Native.Nat.{◌-◌}
use Rattle.test_deep.proofs.nest_all.Given as goal

abbrev pub invariant-loop-x : goal.invariant-loop-x
invariant-loop-x l = Unit {0}

abbrev pub decreases-loop-x : goal.decreases-loop-x
decreases-loop-x l = 1023 - l.x
