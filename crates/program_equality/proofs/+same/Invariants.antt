use Rattle.trees.specs.Held.{base_held, expression_held, slots_held, instruction_held, remaining}
use Rattle.program_weights.specs.Weight.{base_weight, expression_weight, slots_weight, instruction_weight, code_weight}
use Rattle.program_equality.proofs.Loops.{ListsLeft, SlotsLeft}
use Prim.Native.Nat.{◌+◌}
use Rattle.program_equality.proofs.+same.Given as goal

abbrev pub decreases-same_base : goal.decreases-same_base
decreases-same_base l = base_weight (base_held l.p.now l.x)

abbrev pub decreases-same_expression : goal.decreases-same_expression
decreases-same_expression l = expression_weight (expression_held l.p.now l.x)

abbrev pub decreases-same_instruction : goal.decreases-same_instruction
decreases-same_instruction l = instruction_weight (instruction_held l.p.now l.i)

abbrev pub decreases-same_list : goal.decreases-same_list
decreases-same_list l = code_weight (remaining l.p.now l.from)

abbrev pub decreases-same_slots : goal.decreases-same_slots
decreases-same_slots l = slots_weight (slots_held l.p.now l.from)

abbrev pub decreases-same_three : goal.decreases-same_three
decreases-same_three l = base_weight (base_held l.p.now l.a) + base_weight (base_held l.p.now l.b) + base_weight (base_held l.p.now l.c)

abbrev pub decreases-same_two : goal.decreases-same_two
decreases-same_two l = base_weight (base_held l.p.now l.a) + base_weight (base_held l.p.now l.b)

abbrev pub invariant-same_list-loop-a : goal.invariant-same_list-loop-a
invariant-same_list-loop-a l = ListsLeft l.p l.l l.from l.to l.a l.b

abbrev pub decreases-same_list-loop-a : goal.decreases-same_list-loop-a
decreases-same_list-loop-a l = code_weight (remaining l.p l.a)

abbrev pub invariant-same_slots-loop-y : goal.invariant-same_slots-loop-y
invariant-same_slots-loop-y l = SlotsLeft l.p l.l l.from l.to l.y l.z

abbrev pub decreases-same_slots-loop-y : goal.decreases-same_slots-loop-y
decreases-same_slots-loop-y l = slots_weight (slots_held l.p l.y)
