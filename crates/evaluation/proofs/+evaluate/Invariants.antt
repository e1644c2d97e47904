use Rattle.evaluation.proofs.Laws.{slots_left}
use Rattle.evaluation.proofs.Laws.{Filling}
use Prim.Native.Nat.{◌-◌, ◌*◌}
use Rattle.evaluation.proofs.+evaluate.Given as goal

abbrev pub decreases-evaluate : goal.decreases-evaluate
decreases-evaluate l = 2 * (1024 - l.x)

abbrev pub decreases-fill : goal.decreases-fill
decreases-fill l = slots_left l.from

abbrev pub invariant-fill-loop-z : goal.invariant-fill-loop-z
invariant-fill-loop-z l = Filling l.p l.l l.f l.from l.low l.least l.initial.h l.initial.t l.h l.t l.z

abbrev pub decreases-fill-loop-z : goal.decreases-fill-loop-z
decreases-fill-loop-z l = slots_left l.z
