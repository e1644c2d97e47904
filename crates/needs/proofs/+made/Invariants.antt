use Rattle.places.specs.Places.{expression_measure, slots_measure}
use Rattle.needs.proofs.Laws.{Counted}
use Rattle.needs.proofs.+made.Given as goal

abbrev pub decreases-made_in : goal.decreases-made_in
decreases-made_in l = slots_measure l.from

abbrev pub decreases-made_of : goal.decreases-made_of
decreases-made_of l = expression_measure l.x

abbrev pub invariant-made_in-loop-z : goal.invariant-made_in-loop-z
invariant-made_in-loop-z l = Counted l.p l.from l.n l.z

abbrev pub decreases-made_in-loop-z : goal.decreases-made_in-loop-z
decreases-made_in-loop-z l = slots_measure l.z
