use Rattle.evaluation.proofs.Laws.{slots_left, FillingBases}
use Rattle.evaluation.proofs.fill_bases.Given as goal

abbrev pub invariant-loop-z : goal.invariant-loop-z
invariant-loop-z l = FillingBases l.p l.f l.from l.initial.h l.h l.z

abbrev pub decreases-loop-z : goal.decreases-loop-z
decreases-loop-z l = slots_left l.z
