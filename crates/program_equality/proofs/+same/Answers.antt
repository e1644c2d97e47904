use borrow.Author.Rules.{rules}
use Rattle.program_equality.proofs.Bases.{base_apart, base_asked, base_codes, base_integers, base_literals, base_paths, code_asked, expression_apart}
use Rattle.program_equality.proofs.Bases.{expression_bases, expression_frames, expression_nots, expression_operations, first_falls, frame_asked}
use Rattle.program_equality.proofs.Bases.{literals_there, not_asked, operation_asked, paths_there, second_falls, third_falls, three_all, three_apart}
use Rattle.program_equality.proofs.Bases.{three_once, two_apart, two_both, two_fall, two_once}
use Rattle.program_equality.proofs.Instructions.{assign_apart, assign_asked, assign_paths, ifeq_asked, instruction_apart, instruction_assigns, instruction_ifeqs}
use Rattle.program_equality.proofs.Instructions.{instruction_jumps, instruction_shows, jump_asked, show_asked}
use Rattle.program_equality.proofs.Loops.{instruction_falls, list_less, lists_again, lists_apart, lists_end, lists_start, second_shorter, slot_falls}
use Rattle.program_equality.proofs.Loops.{slot_less, slots_again, slots_apart, slots_end, slots_fewer, slots_named_apart, slots_start, two_instructions}
use Rattle.program_equality.proofs.Loops.{two_slots}
use Rattle.program_equality.proofs.+same.Goals as goal

pub same_base-returns-then-expression_kind-kind : goal.same_base-returns-then-expression_kind-kind
same_base-returns-then-expression_kind-kind t c =
    base_apart c.requires _ _ c.expression_kind-kind.ensures c.expression_kind.ensures c.if-expression_kind-kind.true

pub same_base-returns-then-kind-eq0 : goal.same_base-returns-then-kind-eq0
same_base-returns-then-kind-eq0 t c = search base_integers

pub same_base-same_literal_bytes-requires : goal.same_base-same_literal_bytes-requires
same_base-same_literal_bytes-requires t c = search literals_there

pub same_base-returns-then-kind-eq1 : goal.same_base-returns-then-kind-eq1
same_base-returns-then-kind-eq1 t c =
    base_literals c.requires _ _ c.expression_kind-kind.ensures c.expression_kind.ensures c.if-expression_kind-kind.false _ _ c.expression_a-a.ensures c.expression_a-b.ensures _ c.if-kind-eq1.true c.same_literal_bytes.ensures

pub same_base-same_list-requires : goal.same_base-same_list-requires
same_base-same_list-requires t c =
    code_asked c.requires _ _ c.expression_kind-kind.ensures c.expression_kind.ensures c.if-expression_kind-kind.false _ _ c.expression_a-a.ensures c.expression_a-b.ensures c.if-kind-eq4.true _ _ c.code_first.ensures c.code_first-then-kind-eq4.ensures t c.decreases

pub same_base-returns-then-kind-eq4 : goal.same_base-returns-then-kind-eq4
same_base-returns-then-kind-eq4 t c =
    base_codes c.requires _ _ c.expression_kind-kind.ensures c.expression_kind.ensures c.if-expression_kind-kind.false _ _ c.expression_a-a.ensures c.expression_a-b.ensures c.if-kind-eq4.true _ _ c.code_first.ensures c.code_first-then-kind-eq4.ensures _ c.same_list.ensures

pub same_base-same_names-requires : goal.same_base-same_names-requires
same_base-same_names-requires t c =
    paths_there c.requires _ _ c.expression_kind-kind.ensures c.expression_kind.ensures c.if-expression_kind-kind.false _ _ c.expression_a-a.ensures c.expression_a-b.ensures c.if-kind-eq0.false c.if-kind-eq1.false c.if-kind-eq4.false _ _ c.expression_b.ensures c.expression_b-2.ensures

pub same_base-returns : goal.same_base-returns
same_base-returns t c =
    base_paths c.requires _ _ c.expression_kind-kind.ensures c.expression_kind.ensures c.if-expression_kind-kind.false _ _ c.expression_a-a.ensures c.expression_a-b.ensures c.if-kind-eq0.false c.if-kind-eq1.false c.if-kind-eq4.false _ _ c.expression_b.ensures c.expression_b-2.ensures _ c.same_names.ensures

pub same_expression-returns-then-kind-expression_kind : goal.same_expression-returns-then-kind-expression_kind
same_expression-returns-then-kind-expression_kind t c =
    expression_apart c.requires _ _ c.expression_kind-kind.ensures c.expression_kind.ensures c.if-kind-expression_kind.true

pub same_expression-same_base-requires : goal.same_expression-same_base-requires
same_expression-same_base-requires t c =
    base_asked c.requires _ _ c.expression_kind-kind.ensures c.expression_kind.ensures c.if-kind-expression_kind.false c.if-kind-lt5.true t c.decreases

pub same_expression-returns-then-kind-lt5 : goal.same_expression-returns-then-kind-lt5
same_expression-returns-then-kind-lt5 t c =
    expression_bases c.requires _ _ c.expression_kind-kind.ensures c.expression_kind.ensures c.if-kind-expression_kind.false c.if-kind-lt5.true _ c.same_base.ensures

pub same_expression-same_slots-requires : goal.same_expression-same_slots-requires
same_expression-same_slots-requires t c =
    frame_asked c.requires _ _ c.expression_kind-kind.ensures c.expression_kind.ensures c.if-kind-expression_kind.false _ _ c.expression_a-a.ensures c.expression_a-b.ensures c.if-kind-eq5.true _ _ c.link.ensures c.link-then-kind-eq5.ensures t c.decreases

pub same_expression-returns-then-kind-eq5 : goal.same_expression-returns-then-kind-eq5
same_expression-returns-then-kind-eq5 t c =
    expression_frames c.requires _ _ c.expression_kind-kind.ensures c.expression_kind.ensures c.if-kind-expression_kind.false _ _ c.expression_a-a.ensures c.expression_a-b.ensures c.if-kind-eq5.true _ _ c.link.ensures c.link-then-kind-eq5.ensures _ c.same_slots.ensures

pub same_expression-same_base-requires-then-kind-eq6 : goal.same_expression-same_base-requires-then-kind-eq6
same_expression-same_base-requires-then-kind-eq6 t c =
    not_asked c.requires _ _ c.expression_kind-kind.ensures c.expression_kind.ensures c.if-kind-expression_kind.false _ _ c.expression_a-a.ensures c.expression_a-b.ensures c.if-kind-eq6.true t c.decreases

pub same_expression-returns-then-kind-eq6 : goal.same_expression-returns-then-kind-eq6
same_expression-returns-then-kind-eq6 t c =
    expression_nots c.requires _ _ c.expression_kind-kind.ensures c.expression_kind.ensures c.if-kind-expression_kind.false _ _ c.expression_a-a.ensures c.expression_a-b.ensures c.if-kind-eq6.true _ c.same_base-then-kind-eq6.ensures

pub same_expression-same_two-requires : goal.same_expression-same_two-requires
same_expression-same_two-requires t c =
    operation_asked c.requires _ _ c.expression_kind-kind.ensures c.expression_kind.ensures c.if-kind-expression_kind.false _ _ c.expression_a-a.ensures c.expression_a-b.ensures c.if-kind-lt5.false c.if-kind-eq5.false c.if-kind-eq6.false _ _ c.expression_b.ensures c.expression_b-2.ensures t c.decreases

pub same_expression-returns : goal.same_expression-returns
same_expression-returns t c =
    expression_operations c.requires _ _ c.expression_kind-kind.ensures c.expression_kind.ensures c.if-kind-expression_kind.false _ _ c.expression_a-a.ensures c.expression_a-b.ensures c.if-kind-lt5.false c.if-kind-eq5.false c.if-kind-eq6.false _ _ c.expression_b.ensures c.expression_b-2.ensures _ c.same_two.ensures

pub same_instruction-returns-then-instruction_kind-kind : goal.same_instruction-returns-then-instruction_kind-kind
same_instruction-returns-then-instruction_kind-kind t c =
    instruction_apart c.requires _ _ c.instruction_kind-kind.ensures c.instruction_kind.ensures c.if-instruction_kind-kind.true

pub same_instruction-same_base-requires : goal.same_instruction-same_base-requires
same_instruction-same_base-requires t c =
    show_asked c.requires _ _ c.instruction_kind-kind.ensures c.instruction_kind.ensures c.if-instruction_kind-kind.false _ _ c.instruction_a-a.ensures c.instruction_a-d.ensures c.if-kind-eq2.true t c.decreases

pub same_instruction-returns-then-kind-eq2 : goal.same_instruction-returns-then-kind-eq2
same_instruction-returns-then-kind-eq2 t c =
    instruction_shows c.requires _ _ c.instruction_kind-kind.ensures c.instruction_kind.ensures c.if-instruction_kind-kind.false _ _ c.instruction_a-a.ensures c.instruction_a-d.ensures c.if-kind-eq2.true _ c.same_base.ensures

pub same_instruction-same_two-requires : goal.same_instruction-same_two-requires
same_instruction-same_two-requires t c =
    jump_asked c.requires _ _ c.instruction_kind-kind.ensures c.instruction_kind.ensures c.if-instruction_kind-kind.false _ _ c.instruction_a-a.ensures c.instruction_a-d.ensures _ _ c.instruction_b-b.ensures c.instruction_b-e.ensures c.if-kind-eq3.true t c.decreases

pub same_instruction-returns-then-kind-eq3 : goal.same_instruction-returns-then-kind-eq3
same_instruction-returns-then-kind-eq3 t c =
    instruction_jumps c.requires _ _ c.instruction_kind-kind.ensures c.instruction_kind.ensures c.if-instruction_kind-kind.false _ _ c.instruction_a-a.ensures c.instruction_a-d.ensures _ _ c.instruction_b-b.ensures c.instruction_b-e.ensures c.if-kind-eq3.true _ c.same_two.ensures

pub same_instruction-same_three-requires : goal.same_instruction-same_three-requires
same_instruction-same_three-requires t c =
    ifeq_asked c.requires _ _ c.instruction_kind-kind.ensures c.instruction_kind.ensures c.if-instruction_kind-kind.false _ _ c.instruction_a-a.ensures c.instruction_a-d.ensures _ _ c.instruction_b-b.ensures c.instruction_b-e.ensures _ _ c.instruction_c-c.ensures c.instruction_c-f.ensures c.if-kind-eq4.true t c.decreases

pub same_instruction-returns-then-kind-eq4 : goal.same_instruction-returns-then-kind-eq4
same_instruction-returns-then-kind-eq4 t c =
    instruction_ifeqs c.requires _ _ c.instruction_kind-kind.ensures c.instruction_kind.ensures c.if-instruction_kind-kind.false _ _ c.instruction_a-a.ensures c.instruction_a-d.ensures _ _ c.instruction_b-b.ensures c.instruction_b-e.ensures _ _ c.instruction_c-c.ensures c.instruction_c-f.ensures c.if-kind-eq4.true _ c.same_three.ensures

pub same_instruction-same_names-requires : goal.same_instruction-same_names-requires
same_instruction-same_names-requires t c =
    assign_paths c.requires _ _ c.instruction_kind-kind.ensures c.instruction_kind.ensures c.if-instruction_kind-kind.false _ _ c.instruction_a-a.ensures c.instruction_a-d.ensures _ _ c.instruction_b-b.ensures c.instruction_b-e.ensures _ _ c.instruction_c-c.ensures c.instruction_c-f.ensures c.if-kind-eq2.false c.if-kind-eq3.false c.if-kind-eq4.false

pub same_instruction-returns-then-not-same_names : goal.same_instruction-returns-then-not-same_names
same_instruction-returns-then-not-same_names t c =
    assign_apart c.requires _ _ c.instruction_kind-kind.ensures c.instruction_kind.ensures c.if-instruction_kind-kind.false _ _ c.instruction_a-a.ensures c.instruction_a-d.ensures _ _ c.instruction_b-b.ensures c.instruction_b-e.ensures _ _ c.instruction_c-c.ensures c.instruction_c-f.ensures c.if-kind-eq2.false c.if-kind-eq3.false c.if-kind-eq4.false _ c.same_names.ensures c.if-not-same_names.true

pub same_instruction-same_expression-requires : goal.same_instruction-same_expression-requires
same_instruction-same_expression-requires t c =
    assign_asked c.requires _ _ c.instruction_kind-kind.ensures c.instruction_kind.ensures c.if-instruction_kind-kind.false _ _ c.instruction_a-a.ensures c.instruction_a-d.ensures _ _ c.instruction_b-b.ensures c.instruction_b-e.ensures _ _ c.instruction_c-c.ensures c.instruction_c-f.ensures c.if-kind-eq2.false c.if-kind-eq3.false c.if-kind-eq4.false t c.decreases

pub same_instruction-returns : goal.same_instruction-returns
same_instruction-returns t c =
    instruction_assigns c.requires _ _ c.instruction_kind-kind.ensures c.instruction_kind.ensures c.if-instruction_kind-kind.false _ _ c.instruction_a-a.ensures c.instruction_a-d.ensures _ _ c.instruction_b-b.ensures c.instruction_b-e.ensures _ _ c.instruction_c-c.ensures c.instruction_c-f.ensures c.if-kind-eq2.false c.if-kind-eq3.false c.if-kind-eq4.false _ c.same_names.ensures c.if-not-same_names.false _ c.same_expression.ensures

pub same_list-loop-a-init : goal.same_list-loop-a-init
same_list-loop-a-init t c = search lists_start

pub same_list-returns-then-b-eq0 : goal.same_list-returns-then-b-eq0
same_list-returns-then-b-eq0 t c = search second_shorter

pub same_list-same_instruction-requires : goal.same_list-same_instruction-requires
same_list-same_instruction-requires t c = (search instruction_falls, search two_instructions)

pub same_list-returns-then-not-same_instruction : goal.same_list-returns-then-not-same_instruction
same_list-returns-then-not-same_instruction t c =
    lists_apart _ _ _ _ _ _ c.loop-a.invariant c.loop-a-test.true c.if-b-eq0.false _ c.same_instruction.ensures c.if-not-same_instruction.true

pub same_list-loop-a-smaller : goal.same_list-loop-a-smaller
same_list-loop-a-smaller t c = search list_less

pub same_list-loop-a-preserved : goal.same_list-loop-a-preserved
same_list-loop-a-preserved t c =
    lists_again _ _ _ _ _ _ c.loop-a.invariant c.loop-a-test.true c.if-b-eq0.false _ c.same_instruction.ensures _ _ c.instruction_after-a.ensures c.instruction_after-b.ensures c.if-not-same_instruction.false

pub same_list-returns : goal.same_list-returns
same_list-returns t c = search lists_end

pub same_slots-loop-y-init : goal.same_slots-loop-y-init
same_slots-loop-y-init t c = search slots_start

pub same_slots-returns-then-z-eq0 : goal.same_slots-returns-then-z-eq0
same_slots-returns-then-z-eq0 t c = search slots_fewer

pub same_slots-returns-then-slot_name : goal.same_slots-returns-then-slot_name
same_slots-returns-then-slot_name t c =
    slots_named_apart _ _ _ _ _ _ c.loop-y.invariant c.loop-y-test.true c.if-z-eq0.false _ _ c.slot_name.ensures c.slot_name-in-loop-y.ensures c.if-slot_name.true

pub same_slots-same_expression-requires : goal.same_slots-same_expression-requires
same_slots-same_expression-requires t c = (search slot_falls, search two_slots)

pub same_slots-returns-then-not-same_expression : goal.same_slots-returns-then-not-same_expression
same_slots-returns-then-not-same_expression t c =
    slots_apart _ _ _ _ _ _ c.loop-y.invariant c.loop-y-test.true c.if-z-eq0.false _ _ c.slot_name.ensures c.slot_name-in-loop-y.ensures c.if-slot_name.false _ c.same_expression.ensures c.if-not-same_expression.true

pub same_slots-loop-y-smaller : goal.same_slots-loop-y-smaller
same_slots-loop-y-smaller t c =
    slot_less _ _ _ _ _ _ c.loop-y.invariant c.loop-y-test.true c.if-z-eq0.false _ _ c.slot_name.ensures c.slot_name-in-loop-y.ensures c.if-slot_name.false _ c.same_expression.ensures _ _ c.slot_after-y.ensures c.slot_after-z.ensures

pub same_slots-loop-y-preserved : goal.same_slots-loop-y-preserved
same_slots-loop-y-preserved t c =
    slots_again _ _ _ _ _ _ c.loop-y.invariant c.loop-y-test.true c.if-z-eq0.false _ _ c.slot_name.ensures c.slot_name-in-loop-y.ensures c.if-slot_name.false _ c.same_expression.ensures _ _ c.slot_after-y.ensures c.slot_after-z.ensures c.if-not-same_expression.false

pub same_slots-returns : goal.same_slots-returns
same_slots-returns t c = search slots_end

pub same_three-same_two-requires : goal.same_three-same_two-requires
same_three-same_two-requires t c = (search two_fall, search rules)

pub same_three-returns-then-not-same_two : goal.same_three-returns-then-not-same_two
same_three-returns-then-not-same_two t c = search three_apart

pub same_three-returns-then-a-c : goal.same_three-returns-then-a-c
same_three-returns-then-a-c t c = search three_once

pub same_three-same_base-requires : goal.same_three-same_base-requires
same_three-same_base-requires t c = (search third_falls, search rules)

pub same_three-returns : goal.same_three-returns
same_three-returns t c = search three_all

pub same_two-same_base-requires : goal.same_two-same_base-requires
same_two-same_base-requires t c = (search first_falls, search rules)

pub same_two-returns-then-not-same_base : goal.same_two-returns-then-not-same_base
same_two-returns-then-not-same_base t c = search two_apart

pub same_two-returns-then-a-b : goal.same_two-returns-then-a-b
same_two-returns-then-a-b t c = search two_once

pub same_two-same_base-requires-2 : goal.same_two-same_base-requires-2
same_two-same_base-requires-2 t c = (search second_falls, search rules)

pub same_two-returns : goal.same_two-returns
same_two-returns t c = search two_both
