use Rattle.framed.specs.Paths.{in_code}
use Rattle.trees.specs.Held.{base_held, expression_held, slots_held, instruction_held, remaining}
use Rattle.program_weights.specs.Weight.{base_weight, expression_weight, slots_weight, instruction_weight, code_weight}
use Rattle.write_program.proofs.Loops.{CodeSoFar}
use Rattle.write_program.proofs.Loops.{SlotsSoFar}
use Rattle.write_program.proofs.+code.Given as goal

abbrev pub decreases-base_text : goal.decreases-base_text
decreases-base_text l = base_weight (base_held l.p.now l.x)

abbrev pub decreases-code_text : goal.decreases-code_text
decreases-code_text l = code_weight (remaining l.p.now l.from)

abbrev pub decreases-expression_text : goal.decreases-expression_text
decreases-expression_text l = expression_weight (expression_held l.p.now l.x)

abbrev pub decreases-instruction_text : goal.decreases-instruction_text
decreases-instruction_text l = instruction_weight (instruction_held l.p.now l.i)

abbrev pub decreases-slots_text : goal.decreases-slots_text
decreases-slots_text l = slots_weight (slots_held l.p.now l.from)

abbrev pub invariant-code_text-loop-z : goal.invariant-code_text-loop-z
invariant-code_text-loop-z l = CodeSoFar l.p l.l l.holding l.initial.m l.limit l.at l.from l.m l.b l.z

abbrev pub decreases-code_text-loop-z : goal.decreases-code_text-loop-z
decreases-code_text-loop-z l = code_weight (remaining l.p l.z)

abbrev pub invariant-slots_text-loop-z : goal.invariant-slots_text-loop-z
invariant-slots_text-loop-z l = SlotsSoFar l.p l.l (in_code l.holding) l.initial.m l.limit l.at l.from l.m l.b l.z

abbrev pub decreases-slots_text-loop-z : goal.decreases-slots_text-loop-z
decreases-slots_text-loop-z l = slots_weight (slots_held l.p l.z)
