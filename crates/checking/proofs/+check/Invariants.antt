use Rattle.places.specs.Places.{expression_measure, slots_measure}
use Rattle.checking.proofs.Laws.{Checking}
use Rattle.checking.proofs.+check.Given as goal

abbrev pub decreases-check_expression : goal.decreases-check_expression
decreases-check_expression l = expression_measure l.x

abbrev pub decreases-check_slots : goal.decreases-check_slots
decreases-check_slots l = slots_measure l.from

abbrev pub invariant-check_slots-loop-z : goal.invariant-check_slots-loop-z
invariant-check_slots-loop-z l = Checking l.p l.l l.h l.t l.from l.z

abbrev pub decreases-check_slots-loop-z : goal.decreases-check_slots-loop-z
decreases-check_slots-loop-z l = slots_measure l.z
