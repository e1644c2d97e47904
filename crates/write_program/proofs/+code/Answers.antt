use native.Mathlib.Omega.{arith}
use borrow.Author.Rules.{rules}
use Rattle.write_program.proofs.Laws.{can_next, write_next, can_second, write_second, write_third, text_past, string_there, self_path_there, program_path_there}
use Rattle.write_program.proofs.Laws.{base_integer, base_string, base_self, base_program, base_other, code_place, code_falls, base_code, frame_place}
use Rattle.write_program.proofs.Laws.{frame_falls, expression_frame, not_there, not_falls, expression_not, left_there, right_there, left_falls, right_falls}
use Rattle.write_program.proofs.Laws.{expression_operation, plain_falls, expression_plain, assign_self_path, assign_self_there, assign_self_falls}
use Rattle.write_program.proofs.Laws.{instruction_self, assign_program_path, assign_program_there, assign_program_falls, instruction_program, show_there}
use Rattle.write_program.proofs.Laws.{show_falls, instruction_show, jump_operands, instruction_jump, ifeq_first, ifeq_second, ifeq_third, ifeq_first_falls}
use Rattle.write_program.proofs.Laws.{ifeq_second_falls, ifeq_third_falls, instruction_ifeq, instruction_formed}
use Rattle.write_program.proofs.Loops.{code_start, code_size, code_past, code_end, code_can, code_semicolon, instruction_there, code_less, code_again}
use Rattle.write_program.proofs.Loops.{instruction_falls, slots_start, slots_size, slots_past, slots_end, slots_can, slot_can, slot_there}
use Rattle.write_program.proofs.Loops.{slot_named, slots_less, slot_falls, slots_in_code}
use Rattle.write_program.proofs.+code.Goals as goal

pub base_text-returns-then-limit-at : goal.base_text-returns-then-limit-at
base_text-returns-then-limit-at t c = search text_past

pub base_text-append_string-requires : goal.base_text-append_string-requires
base_text-append_string-requires t c = (search string_there, search rules)

pub base_text-append_self_path-requires : goal.base_text-append_self_path-requires
base_text-append_self_path-requires t c = (search self_path_there, search rules)

pub base_text-append_program_path-requires : goal.base_text-append_program_path-requires
base_text-append_program_path-requires t c = (search program_path_there, search rules)

pub base_text-code_text-b-requires : goal.base_text-code_text-b-requires
base_text-code_text-b-requires t c = (search code_falls, (search write_next, search code_place))

pub base_text-append-requires : goal.base_text-append-requires
base_text-append-requires t c =
    can_second c.requires.can_write c.append-a.ensures c.code_text-b.ensures

pub base_text-returns-in-Integer : goal.base_text-returns-in-Integer
base_text-returns-in-Integer t c = search base_integer

pub base_text-returns-in-Literal : goal.base_text-returns-in-Literal
base_text-returns-in-Literal t c = search base_string

pub base_text-returns-in-FromSelf : goal.base_text-returns-in-FromSelf
base_text-returns-in-FromSelf t c = search base_self

pub base_text-returns-in-FromProgram : goal.base_text-returns-in-FromProgram
base_text-returns-in-FromProgram t c = search base_program

pub base_text-returns-in-Code : goal.base_text-returns-in-Code
base_text-returns-in-Code t c = search base_code

pub base_text-returns-in_default : goal.base_text-returns-in_default
base_text-returns-in_default t c = search base_other

pub code_text-loop-z-init : goal.code_text-loop-z-init
code_text-loop-z-init t c = search code_start

pub code_text-shape_of-m-then-limit-b : goal.code_text-shape_of-m-then-limit-b
code_text-shape_of-m-then-limit-b t c = search code_size

pub code_text-returns-then-limit-b : goal.code_text-returns-then-limit-b
code_text-returns-then-limit-b t c = search code_past

pub code_text-instruction_text-a-requires : goal.code_text-instruction_text-a-requires
code_text-instruction_text-a-requires t c = (search instruction_falls, (search code_can, search instruction_there))

pub code_text-append-b-requires : goal.code_text-append-b-requires
code_text-append-b-requires t c = search (code_semicolon, c.instruction_text-a.ensures)

pub code_text-loop-z-smaller : goal.code_text-loop-z-smaller
code_text-loop-z-smaller t c = search code_less

pub code_text-loop-z-preserved : goal.code_text-loop-z-preserved
code_text-loop-z-preserved t c = search code_again

pub code_text-shape_of-m : goal.code_text-shape_of-m
code_text-shape_of-m t c = search code_size

pub code_text-returns : goal.code_text-returns
code_text-returns t c = search code_end

pub expression_text-slots_text-b-requires : goal.expression_text-slots_text-b-requires
expression_text-slots_text-b-requires t c = (search frame_falls, (search write_next, search frame_place))

pub expression_text-append-requires : goal.expression_text-append-requires
expression_text-append-requires t c =
    can_second c.requires.can_write c.append-a.ensures c.slots_text-b.ensures

pub expression_text-base_text-requires : goal.expression_text-base_text-requires
expression_text-base_text-requires t c = (search not_falls, (search write_next, search not_there))

pub expression_text-base_text-a-requires : goal.expression_text-base_text-a-requires
expression_text-base_text-a-requires t c = (search left_falls, (search rules, search left_there))

pub expression_text-append_operator-b-requires : goal.expression_text-append_operator-b-requires
expression_text-append_operator-b-requires t c = search can_next

pub expression_text-base_text-requires-in-Operate : goal.expression_text-base_text-requires-in-Operate
expression_text-base_text-requires-in-Operate t c = (search right_falls, (search (write_second, c.base_text-a.ensures, c.append_operator-b.ensures), search right_there))

pub expression_text-base_text-requires-in_default : goal.expression_text-base_text-requires-in_default
expression_text-base_text-requires-in_default t c = (search plain_falls, (search rules, search rules))

pub expression_text-returns-in-Frame : goal.expression_text-returns-in-Frame
expression_text-returns-in-Frame t c = search expression_frame

pub expression_text-returns-in-Not : goal.expression_text-returns-in-Not
expression_text-returns-in-Not t c = search expression_not

pub expression_text-returns-in-Operate : goal.expression_text-returns-in-Operate
expression_text-returns-in-Operate t c = search expression_operation

pub expression_text-returns-in_default : goal.expression_text-returns-in_default
expression_text-returns-in_default t c = search expression_plain

pub instruction_text-append_self_path-a-requires : goal.instruction_text-append_self_path-a-requires
instruction_text-append_self_path-a-requires t c = (search assign_self_path, search rules)

pub instruction_text-append-b-requires : goal.instruction_text-append-b-requires
instruction_text-append-b-requires t c = search can_next

pub instruction_text-expression_text-requires : goal.instruction_text-expression_text-requires
instruction_text-expression_text-requires t c = (search assign_self_falls, (search (write_second, c.append_self_path-a.ensures, c.append-b.ensures), search assign_self_there))

pub instruction_text-append_program_path-a-requires : goal.instruction_text-append_program_path-a-requires
instruction_text-append_program_path-a-requires t c = (search assign_program_path, search rules)

pub instruction_text-append-b-requires-in-AssignProgram : goal.instruction_text-append-b-requires-in-AssignProgram
instruction_text-append-b-requires-in-AssignProgram t c = search can_next

pub instruction_text-expression_text-requires-in-AssignProgram : goal.instruction_text-expression_text-requires-in-AssignProgram
instruction_text-expression_text-requires-in-AssignProgram t c = (search assign_program_falls, (search (write_second, c.append_program_path-a.ensures, c.append-b-in-AssignProgram.ensures), search assign_program_there))

pub instruction_text-base_text-requires : goal.instruction_text-base_text-requires
instruction_text-base_text-requires t c = (search show_falls, (search (write_next, c.append-a.ensures), search show_there))

pub instruction_text-base_text-b-requires : goal.instruction_text-base_text-b-requires
instruction_text-base_text-b-requires t c =
    let o = jump_operands c.requires.can_write c.requires.i_bound _ c.instruction_at-e.ensures _ _ c.in-Jump.is in
    (omega arith, (search (write_next, c.append-a-in-Jump.ensures), omega arith))

pub instruction_text-base_text-requires-in-Jump : goal.instruction_text-base_text-requires-in-Jump
instruction_text-base_text-requires-in-Jump t c =
    let o = jump_operands c.requires.can_write c.requires.i_bound _ c.instruction_at-e.ensures _ _ c.in-Jump.is in
    (omega arith, (search (write_second, c.append-a-in-Jump.ensures, c.base_text-b.ensures), omega arith))

pub instruction_text-base_text-b-requires-in-Ifeq : goal.instruction_text-base_text-b-requires-in-Ifeq
instruction_text-base_text-b-requires-in-Ifeq t c = (search ifeq_first_falls, (search (write_next, c.append-a-in-Ifeq.ensures), search ifeq_first))

pub instruction_text-base_text-c-requires : goal.instruction_text-base_text-c-requires
instruction_text-base_text-c-requires t c = (search ifeq_second_falls, (search (write_second, c.append-a-in-Ifeq.ensures, c.base_text-b-in-Ifeq.ensures), search ifeq_second))

pub instruction_text-base_text-requires-in-Ifeq : goal.instruction_text-base_text-requires-in-Ifeq
instruction_text-base_text-requires-in-Ifeq t c =
    (ifeq_third_falls c.requires.can_write c.requires.i_bound _ c.instruction_at-e.ensures _ _ _ c.in-Ifeq.is _ c.decreases, (write_third c.requires.can_write c.append-a-in-Ifeq.ensures c.base_text-b-in-Ifeq.ensures c.base_text-c.ensures, ifeq_third c.requires.can_write c.requires.i_bound _ c.instruction_at-e.ensures _ _ _ c.in-Ifeq.is))

pub instruction_text-returns-in-AssignSelf : goal.instruction_text-returns-in-AssignSelf
instruction_text-returns-in-AssignSelf t c = search instruction_self

pub instruction_text-returns-in-AssignProgram : goal.instruction_text-returns-in-AssignProgram
instruction_text-returns-in-AssignProgram t c = search instruction_program

pub instruction_text-returns-in-Show : goal.instruction_text-returns-in-Show
instruction_text-returns-in-Show t c = search instruction_show

pub instruction_text-returns-in-Jump : goal.instruction_text-returns-in-Jump
instruction_text-returns-in-Jump t c = search instruction_jump

pub instruction_text-returns-in-Ifeq : goal.instruction_text-returns-in-Ifeq
instruction_text-returns-in-Ifeq t c =
    instruction_ifeq c.requires.can_write c.requires.i_bound _ c.instruction_at-e.ensures _ _ _ c.in-Ifeq.is _ c.append-a-in-Ifeq.ensures c.base_text-b-in-Ifeq.ensures c.base_text-c.ensures c.base_text-in-Ifeq.ensures

pub instruction_text-returns-in-Bad : goal.instruction_text-returns-in-Bad
instruction_text-returns-in-Bad t c = absurd (search instruction_formed)

pub slots_text-loop-z-init : goal.slots_text-loop-z-init
slots_text-loop-z-init t c = search slots_start

pub slots_text-shape_of-m-then-limit-b : goal.slots_text-shape_of-m-then-limit-b
slots_text-shape_of-m-then-limit-b t c = search slots_size

pub slots_text-returns-then-limit-b : goal.slots_text-returns-then-limit-b
slots_text-returns-then-limit-b t c = search slots_past

pub slots_text-slot_head-a-requires : goal.slots_text-slot_head-a-requires
slots_text-slot_head-a-requires t c = record { at_name = search slot_named; can_append = search slots_can }

pub slots_text-expression_text-b-requires : goal.slots_text-expression_text-b-requires
slots_text-expression_text-b-requires t c = (search slot_falls, (search (slot_can, c.slot_head-a.ensures), search slot_there))

pub slots_text-loop-z-smaller : goal.slots_text-loop-z-smaller
slots_text-loop-z-smaller t c = search slots_less

pub slots_text-loop-z-preserved : goal.slots_text-loop-z-preserved
slots_text-loop-z-preserved t c = search slots_in_code

pub slots_text-shape_of-m : goal.slots_text-shape_of-m
slots_text-shape_of-m t c = search slots_size

pub slots_text-returns : goal.slots_text-returns
slots_text-returns t c = search slots_end
