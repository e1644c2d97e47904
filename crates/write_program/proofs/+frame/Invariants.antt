use Rattle.trees.specs.Held.{expression_held, slots_held}
use Rattle.program_weights.specs.Weight.{expression_weight, slots_weight}
use Rattle.write_program.proofs.Outside.{FrameSoFar}
use Rattle.write_program.proofs.+frame.Given as goal

abbrev pub decreases-frame_text : goal.decreases-frame_text
decreases-frame_text l = slots_weight (slots_held l.p.now l.from)

abbrev pub decreases-outside_text : goal.decreases-outside_text
decreases-outside_text l = expression_weight (expression_held l.p.now l.y)

abbrev pub invariant-frame_text-loop-z : goal.invariant-frame_text-loop-z
invariant-frame_text-loop-z l = FrameSoFar l.p l.l l.initial.g l.depth l.initial.m l.limit l.at l.from l.g l.m l.b l.z

abbrev pub decreases-frame_text-loop-z : goal.decreases-frame_text-loop-z
decreases-frame_text-loop-z l = slots_weight (slots_held l.p l.z)
