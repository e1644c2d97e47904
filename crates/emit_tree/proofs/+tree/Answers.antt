use native.Mathlib.Omega.{arith}
use borrow.Author.Rules.{rules}
use Rattle.emit_tree.proofs.Bases.{operand_falls, right_falls, binary_falls, binary_falls_2, first_falls, second_falls, third_falls, seen_expression, seen_instruction, operand_done, right_done, block_none, block_falls, block_done, base_block, base_path, base_integer, base_string, negation_done, binary_done, frame_none, frame_falls, frame_done, expression_frame, expression_not, expression_outside, expression_binary, expression_base}
use Rattle.emit_tree.proofs.Lists.{slot_falls, slot_done, slots_start, slots_end, slots_other, slots_none, slots_again, show_done, jump_done, ifeq_done, assign_done, instruction_show, instruction_jump, instruction_ifeq, instruction_assign, line_falls, line_done, lines_start, lines_end, lines_none, lines_stuck, lines_again}
use Rattle.emit_tree.proofs.+tree.Goals as goal
use Rattle.emit_tree.proofs.+tree.Goals.{expression-else-place, expression-then-place+else-operator_after}

pub assigning-right-requires : goal.assigning-right-requires
assigning-right-requires t c = (omega arith, tt)

pub assigning-returns : goal.assigning-returns
assigning-returns t c = search assign_done

pub base-block-requires : goal.base-block-requires
base-block-requires t c = (omega arith, search rules)

pub base-returns-then-t-eq28 : goal.base-returns-then-t-eq28
base-returns-then-t-eq28 t c = search base_block

pub base-returns-then-t-lt26 : goal.base-returns-then-t-lt26
base-returns-then-t-lt26 t c = search base_path

pub base-returns-then-t-eq26 : goal.base-returns-then-t-eq26
base-returns-then-t-eq26 t c = search base_integer

pub base-returns : goal.base-returns
base-returns t c = search base_string

pub binary-base-u-requires : goal.binary-base-u-requires
binary-base-u-requires t c = (search binary_falls, search seen_expression)

pub binary-operand-requires : goal.binary-operand-requires
binary-operand-requires t c = (search binary_falls_2, tt)

pub binary-returns : goal.binary-returns
binary-returns t c = search binary_done

pub block-returns-then-m-n : goal.block-returns-then-m-n
block-returns-then-m-n t c = search block_none

pub block-instructions-u-requires : goal.block-instructions-u-requires
block-instructions-u-requires t c = (search block_falls, search rules)

pub block-returns : goal.block-returns
block-returns t c = block_done _ _ _ _ _ _ _ _ c.open_block-o.ensures.done _ c.within_code-inner.ensures _ _ c.instructions-u.ensures _ c.skip.ensures

pub branching-operand-u-requires : goal.branching-operand-u-requires
branching-operand-u-requires t c = (search first_falls, tt)

pub branching-operand-v-requires : goal.branching-operand-v-requires
branching-operand-v-requires t c = (search second_falls, tt)

pub branching-operand-requires : goal.branching-operand-requires
branching-operand-requires t c = (third_falls _ _ _ c.requires _ c.go_to-m.ensures _ _ c.operand-u.ensures.on c.operand-v.ensures.on _ c.decreases, tt)

pub branching-returns : goal.branching-returns
branching-returns t c = ifeq_done _ _ _ _ _ _ _ c.requires _ c.go_to-m.ensures _ _ c.operand-u.ensures _ _ c.operand-v.ensures _ c.set_instruction.ensures _ _ c.operand.ensures

pub expression-frame-requires : goal.expression-frame-requires
expression-frame-requires t c = (omega arith, search rules)

pub expression-returns-then-t-eq0 : goal.expression-returns-then-t-eq0
expression-returns-then-t-eq0 t c = search expression_frame

pub expression-negation-requires : goal.expression-negation-requires
expression-negation-requires t c = (omega arith, search rules)

pub expression-returns-then-t-eq9 : goal.expression-returns-then-t-eq9
expression-returns-then-t-eq9 t c = search expression_not

pub expression-binary-requires : goal.expression-binary-requires
expression-binary-requires t c = (omega arith, search rules)

pub expression-returns-then-operator_after : goal.expression-returns-then-operator_after
expression-returns-then-operator_after t c = search (expression_binary, c.requires)

pub expression-base-requires : goal.expression-base-requires
expression-base-requires t c = (omega arith, search rules)

pub expression-returns : goal.expression-returns
expression-returns t c =
    elim c.if-place.branch [
      | expression-then-place+else-operator_after w ↦ search (expression_base, c.requires)
      | expression-else-place w ↦ search (expression_outside, c.requires)
    ]

pub frame-returns-then-m-n : goal.frame-returns-then-m-n
frame-returns-then-m-n t c = search frame_none

pub frame-slots-u-requires : goal.frame-slots-u-requires
frame-slots-u-requires t c = (search frame_falls, search rules)

pub frame-returns : goal.frame-returns
frame-returns t c = frame_done _ _ _ _ _ _ _ _ c.open_frame-o.ensures.done _ _ c.slots-u.ensures _ c.skip.ensures

pub instruction-showing-requires : goal.instruction-showing-requires
instruction-showing-requires t c = (omega arith, search rules)

pub instruction-returns-then-t-eq2 : goal.instruction-returns-then-t-eq2
instruction-returns-then-t-eq2 t c = search instruction_show

pub instruction-jumping-requires : goal.instruction-jumping-requires
instruction-jumping-requires t c = (omega arith, search rules)

pub instruction-returns-then-t-eq3 : goal.instruction-returns-then-t-eq3
instruction-returns-then-t-eq3 t c = search instruction_jump

pub instruction-branching-requires : goal.instruction-branching-requires
instruction-branching-requires t c = (omega arith, search rules)

pub instruction-returns-then-t-eq4 : goal.instruction-returns-then-t-eq4
instruction-returns-then-t-eq4 t c = search (instruction_ifeq, c.requires)

pub instruction-assigning-requires : goal.instruction-assigning-requires
instruction-assigning-requires t c = (omega arith, search rules)

pub instruction-returns : goal.instruction-returns
instruction-returns t c = search (instruction_assign, c.requires)

pub instructions-loop-m-init : goal.instructions-loop-m-init
instructions-loop-m-init t c = search lines_start

pub instructions-returns-then-t-eq15 : goal.instructions-returns-then-t-eq15
instructions-returns-then-t-eq15 t c = search lines_none

pub instructions-line-r-requires : goal.instructions-line-r-requires
instructions-line-r-requires t c = (omega arith, search rules)

pub instructions-returns-then-m-at : goal.instructions-returns-then-m-at
instructions-returns-then-m-at t c = search lines_stuck

pub instructions-loop-m-preserved : goal.instructions-loop-m-preserved
instructions-loop-m-preserved t c = search lines_again

pub instructions-returns : goal.instructions-returns
instructions-returns t c = search lines_end

pub jumping-operand-u-requires : goal.jumping-operand-u-requires
jumping-operand-u-requires t c = (search first_falls, tt)

pub jumping-operand-requires : goal.jumping-operand-requires
jumping-operand-requires t c = (search second_falls, tt)

pub jumping-returns : goal.jumping-returns
jumping-returns t c = jump_done _ _ _ _ _ _ _ c.requires _ c.go_to-m.ensures _ _ c.operand-u.ensures _ c.set_instruction.ensures _ _ c.operand.ensures

pub line-instruction-u-requires : goal.line-instruction-u-requires
line-instruction-u-requires t c = (search line_falls, search seen_instruction)

pub line-returns : goal.line-returns
line-returns t c = search line_done

pub negation-operand-requires : goal.negation-operand-requires
negation-operand-requires t c = (search first_falls, tt)

pub negation-returns : goal.negation-returns
negation-returns t c = search negation_done

pub operand-base-requires : goal.operand-base-requires
operand-base-requires t c = (search operand_falls, search rules)

pub operand-returns : goal.operand-returns
operand-returns t c = search operand_done

pub right-expression-requires : goal.right-expression-requires
right-expression-requires t c = (search right_falls, search rules)

pub right-returns : goal.right-returns
right-returns t c = search right_done

pub showing-operand-requires : goal.showing-operand-requires
showing-operand-requires t c = (search first_falls, tt)

pub showing-returns : goal.showing-returns
showing-returns t c = search show_done

pub slot-right-u-requires : goal.slot-right-u-requires
slot-right-u-requires t c = (search slot_falls, tt)

pub slot-returns : goal.slot-returns
slot-returns t c = search (slot_done, c.name_slot-k.ensures, c.within_slot-inner.ensures, c.go_to-m.ensures, c.right-u.ensures, c.close_slot.ensures)

pub slots-loop-m-init : goal.slots-loop-m-init
slots-loop-m-init t c = search slots_start

pub slots-returns-then-t-ne25 : goal.slots-returns-then-t-ne25
slots-returns-then-t-ne25 t c = search slots_other

pub slots-returns-then-q-t : goal.slots-returns-then-q-t
slots-returns-then-q-t t c = search slots_none

pub slots-slot-r-requires : goal.slots-slot-r-requires
slots-slot-r-requires t c = (omega arith, search rules)

pub slots-loop-m-smaller : goal.slots-loop-m-smaller
slots-loop-m-smaller t c = omega (arith, c.slot-r.ensures.done.on, c.loop-m.invariant.seen.on)

pub slots-loop-m-preserved : goal.slots-loop-m-preserved
slots-loop-m-preserved t c = search slots_again

pub slots-returns : goal.slots-returns
slots-returns t c = search slots_end
