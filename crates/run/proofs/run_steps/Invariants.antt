use Prim.Native.Nat.{◌-◌}
use Rattle.allocation.specs.Known.{Knows}
use Rattle.run.specs.Loop.{Going}
use Rattle.run.proofs.run_steps.Given as goal

abbrev pub invariant-loop-steps : goal.invariant-loop-steps
invariant-loop-steps l = Going l.p l.l l.fuel l.initial.h l.initial.t l.initial.out l.h l.t l.out l.steps l.used × Knows l.h 0 0 l.known

abbrev pub decreases-loop-steps : goal.decreases-loop-steps
decreases-loop-steps l = l.fuel - l.steps
