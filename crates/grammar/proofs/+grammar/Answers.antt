use native.Mathlib.Omega.{arith}
use borrow.Author.Rules.{rules}
use Rattle.grammar.proofs.Laws.{assign_1, assign_2, assign_3, assign_falls, base_block, base_none, base_path, base_token, binary_1, binary_2, binary_falls, block_1, block_2, block_3, block_falls, expression_binary, expression_frame, expression_not, frame_1, frame_2, frame_3, frame_4, frame_falls, ifeq_1, ifeq_2, ifeq_3, ifeq_4, ifeq_falls, ifeq_falls_2, ifeq_falls_3, instruction_assign, instruction_ifeq, instruction_jump, instruction_show, jump_1, jump_2, jump_3, jump_falls, jump_falls_2, list_1, list_2, list_again, list_falls, list_less, list_start, negation_1, negation_2, negation_falls, operation_1, operation_2, operation_3, operation_falls, show_1, show_2, show_falls, slots_1, slots_2, slots_3, slots_4, slots_again, slots_falls, slots_less, slots_start}
use Rattle.grammar.proofs.+grammar.Goals as goal

pub assigning-returns-in_err-p : goal.assigning-returns-in_err-p
assigning-returns-in_err-p t c = rw c.from_residual.ensures (search (assign_1, c.in_err-p.was))

pub assigning-returns-in_err-q : goal.assigning-returns-in_err-q
assigning-returns-in_err-q t c = rw c.from_residual-in_err-q.ensures (search (assign_2, c.in_ok-p.was, c.in_err-q.was))

pub assigning-expression-requires : goal.assigning-expression-requires
assigning-expression-requires t c = (search (assign_falls, c.in_ok-p.was, c.in_ok-q.was), search rules)

pub assigning-returns : goal.assigning-returns
assigning-returns t c = search (assign_3, c.in_ok-p.was, c.in_ok-q.was)

pub base-base_from-requires : goal.base-base_from-requires
base-base_from-requires t c = (omega arith, search rules)

pub base_from-block-requires : goal.base_from-block-requires
base_from-block-requires t c = (omega arith, search rules)

pub base_from-returns-then-t-eq28 : goal.base_from-returns-then-t-eq28
base_from-returns-then-t-eq28 t c = search base_block

pub base_from-returns-then-t-lt26 : goal.base_from-returns-then-t-lt26
base_from-returns-then-t-lt26 t c = search base_path

pub base_from-returns-then-t-lt28 : goal.base_from-returns-then-t-lt28
base_from-returns-then-t-lt28 t c = search base_token

pub base_from-returns : goal.base_from-returns
base_from-returns t c = search base_none

pub binary-base-requires : goal.binary-base-requires
binary-base-requires t c = (omega arith, search rules)

pub binary-returns-in_err-p : goal.binary-returns-in_err-p
binary-returns-in_err-p t c = rw c.from_residual.ensures (search (binary_1, c.in_err-p.was))

pub binary-operation-q-requires : goal.binary-operation-q-requires
binary-operation-q-requires t c = (search (binary_falls, c.in_ok-p.was), search rules)

pub binary-returns : goal.binary-returns
binary-returns t c = search (binary_2, c.in_ok-p.was)

pub block-returns-in_err-p : goal.block-returns-in_err-p
block-returns-in_err-p t c = rw c.from_residual.ensures (search (block_1, c.in_err-p.was))

pub block-returns-in_err-q : goal.block-returns-in_err-q
block-returns-in_err-q t c = rw c.from_residual-in_err-q.ensures (search (block_2, c.in_ok-p.was, c.in_err-q.was))

pub block-instructions-u-requires : goal.block-instructions-u-requires
block-instructions-u-requires t c = (search (block_falls, c.in_ok-p.was, c.in_ok-q.was), search rules)

pub block-returns : goal.block-returns
block-returns t c = search (block_3, c.in_ok-p.was, c.in_ok-q.was)

pub branching-returns-in_err-p : goal.branching-returns-in_err-p
branching-returns-in_err-p t c = rw c.from_residual.ensures (search (ifeq_1, c.in_err-p.was))

pub branching-base-requires : goal.branching-base-requires
branching-base-requires t c = (search (ifeq_falls, c.in_ok-p.was), search rules)

pub branching-returns-in_err-q : goal.branching-returns-in_err-q
branching-returns-in_err-q t c = rw c.from_residual-in_err-q.ensures (search (ifeq_2, c.in_ok-p.was, c.in_err-q.was))

pub branching-base-requires-2 : goal.branching-base-requires-2
branching-base-requires-2 t c = (search (ifeq_falls_2, c.in_ok-p.was, c.in_ok-q.was), search rules)

pub branching-returns-in_err-u : goal.branching-returns-in_err-u
branching-returns-in_err-u t c = rw c.from_residual-in_err-u.ensures (search (ifeq_3, c.in_ok-p.was, c.in_ok-q.was, c.in_err-u.was))

pub branching-base-requires-3 : goal.branching-base-requires-3
branching-base-requires-3 t c = (search (ifeq_falls_3, c.in_ok-p.was, c.in_ok-q.was, c.in_ok-u.was), search rules)

pub branching-returns : goal.branching-returns
branching-returns t c = search (ifeq_4, c.in_ok-p.was, c.in_ok-q.was, c.in_ok-u.was)

pub expression-frame-requires : goal.expression-frame-requires
expression-frame-requires t c = (omega arith, search rules)

pub expression-returns-then-k-eq0 : goal.expression-returns-then-k-eq0
expression-returns-then-k-eq0 t c = search expression_frame

pub expression-negation-requires : goal.expression-negation-requires
expression-negation-requires t c = (omega arith, search rules)

pub expression-returns-then-k-eq9 : goal.expression-returns-then-k-eq9
expression-returns-then-k-eq9 t c = search expression_not

pub expression-binary-requires : goal.expression-binary-requires
expression-binary-requires t c = (omega arith, search rules)

pub expression-returns : goal.expression-returns
expression-returns t c = search expression_binary

pub frame-returns-in_err-p : goal.frame-returns-in_err-p
frame-returns-in_err-p t c = rw c.from_residual.ensures (search (frame_1, c.in_err-p.was))

pub frame-returns-in_err-q : goal.frame-returns-in_err-q
frame-returns-in_err-q t c = rw c.from_residual-in_err-q.ensures (search (frame_2, c.in_ok-p.was, c.in_err-q.was))

pub frame-returns-in_err-u : goal.frame-returns-in_err-u
frame-returns-in_err-u t c = rw c.from_residual-in_err-u.ensures (search (frame_3, c.in_ok-p.was, c.in_ok-q.was, c.in_err-u.was))

pub frame-slots-v-requires : goal.frame-slots-v-requires
frame-slots-v-requires t c = (search (frame_falls, c.in_ok-p.was, c.in_ok-q.was, c.in_ok-u.was), search rules)

pub frame-returns : goal.frame-returns
frame-returns t c = search (frame_4, c.in_ok-p.was, c.in_ok-q.was, c.in_ok-u.was)

pub instruction-showing-requires : goal.instruction-showing-requires
instruction-showing-requires t c = (omega arith, search rules)

pub instruction-returns-then-k-eq2 : goal.instruction-returns-then-k-eq2
instruction-returns-then-k-eq2 t c = search instruction_show

pub instruction-jumping-requires : goal.instruction-jumping-requires
instruction-jumping-requires t c = (omega arith, search rules)

pub instruction-returns-then-k-eq3 : goal.instruction-returns-then-k-eq3
instruction-returns-then-k-eq3 t c = search instruction_jump

pub instruction-branching-requires : goal.instruction-branching-requires
instruction-branching-requires t c = (omega arith, search rules)

pub instruction-returns-then-k-eq4 : goal.instruction-returns-then-k-eq4
instruction-returns-then-k-eq4 t c = search instruction_ifeq

pub instruction-assigning-requires : goal.instruction-assigning-requires
instruction-assigning-requires t c = (omega arith, search rules)

pub instruction-returns : goal.instruction-returns
instruction-returns t c = search instruction_assign

pub instructions-loop-p-init : goal.instructions-loop-p-init
instructions-loop-p-init t c = search list_start

pub instructions-instruction-requires : goal.instructions-instruction-requires
instructions-instruction-requires t c = (search list_falls, search rules)

pub instructions-returns : goal.instructions-returns
instructions-returns t c = search list_1

pub instructions-returns-in_default-expect : goal.instructions-returns-in_default-expect
instructions-returns-in_default-expect t c = search list_2

pub instructions-loop-p-smaller : goal.instructions-loop-p-smaller
instructions-loop-p-smaller t c = search list_less

pub instructions-loop-p-preserved : goal.instructions-loop-p-preserved
instructions-loop-p-preserved t c = search list_again

pub jumping-returns-in_err-p : goal.jumping-returns-in_err-p
jumping-returns-in_err-p t c = rw c.from_residual.ensures (search (jump_1, c.in_err-p.was))

pub jumping-base-requires : goal.jumping-base-requires
jumping-base-requires t c = (search (jump_falls, c.in_ok-p.was), search rules)

pub jumping-returns-in_err-q : goal.jumping-returns-in_err-q
jumping-returns-in_err-q t c = rw c.from_residual-in_err-q.ensures (search (jump_2, c.in_ok-p.was, c.in_err-q.was))

pub jumping-base-requires-2 : goal.jumping-base-requires-2
jumping-base-requires-2 t c = (search (jump_falls_2, c.in_ok-p.was, c.in_ok-q.was), search rules)

pub jumping-returns : goal.jumping-returns
jumping-returns t c = search (jump_3, c.in_ok-p.was, c.in_ok-q.was)

pub negation-returns-in_err-p : goal.negation-returns-in_err-p
negation-returns-in_err-p t c = rw c.from_residual.ensures (search (negation_1, c.in_err-p.was))

pub negation-base-requires : goal.negation-base-requires
negation-base-requires t c = (search (negation_falls, c.in_ok-p.was), search rules)

pub negation-returns : goal.negation-returns
negation-returns t c = search (negation_2, c.in_ok-p.was)

pub operation-returns-in_default : goal.operation-returns-in_default
operation-returns-in_default t c = search operation_1

pub operation-base-requires : goal.operation-base-requires
operation-base-requires t c = (search operation_falls, search rules)

pub operation-returns-in_default-base : goal.operation-returns-in_default-base
operation-returns-in_default-base t c = search operation_2

pub operation-returns : goal.operation-returns
operation-returns t c = search operation_3

pub showing-returns-in_err-p : goal.showing-returns-in_err-p
showing-returns-in_err-p t c = rw c.from_residual.ensures (search (show_1, c.in_err-p.was))

pub showing-base-requires : goal.showing-base-requires
showing-base-requires t c = (search (show_falls, c.in_ok-p.was), search rules)

pub showing-returns : goal.showing-returns
showing-returns t c = search (show_2, c.in_ok-p.was)

pub slots-loop-p-init : goal.slots-loop-p-init
slots-loop-p-init t c = search slots_start

pub slots-returns : goal.slots-returns
slots-returns t c = search slots_1

pub slots-returns-in_default-expect : goal.slots-returns-in_default-expect
slots-returns-in_default-expect t c = search slots_2

pub slots-expression-requires : goal.slots-expression-requires
slots-expression-requires t c = (search slots_falls, search rules)

pub slots-returns-in_default-expression : goal.slots-returns-in_default-expression
slots-returns-in_default-expression t c = search slots_3

pub slots-returns-in_default-expect-2 : goal.slots-returns-in_default-expect-2
slots-returns-in_default-expect-2 t c = search slots_4

pub slots-loop-p-smaller : goal.slots-loop-p-smaller
slots-loop-p-smaller t c = search slots_less

pub slots-loop-p-preserved : goal.slots-loop-p-preserved
slots-loop-p-preserved t c = search slots_again
