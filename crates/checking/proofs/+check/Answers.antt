use mathlib.Core.Path.{◌∙◌}
use Rattle.paths.proofs.Exits.{passed_end, some_met, none_met}
use Rattle.checking.proofs.Laws.{frame_slots, frame_falls, expression_single, expression_frame}
use Rattle.checking.proofs.Laws.{slots_start, slots_none, slot_expression, slot_falls, slots_met, next_falls, slots_again, base_met, base_again}
use Rattle.checking.proofs.+check.Goals as goal

pub check_expression-returns-in_default : goal.check_expression-returns-in_default
check_expression-returns-in_default t c = search expression_single

pub check_expression-check_slots-requires : goal.check_expression-check_slots-requires
check_expression-check_slots-requires t c = (search frame_falls, search frame_slots)

pub check_expression-returns : goal.check_expression-returns
check_expression-returns t c = search expression_frame

pub check_slots-loop-z-init : goal.check_slots-loop-z-init
check_slots-loop-z-init t c = search slots_start

pub check_slots-returns-in_err-check_operand : goal.check_slots-returns-in_err-check_operand
check_slots-returns-in_err-check_operand t c =
    passed_end _ _ c.from_residual.ensures.1 _ c.in_err-check_operand.was ∙ search (base_met, some_met _ _ c.in_err-check_operand.was)

pub check_slots-loop-z-smaller-then-expression_kind-lt5 : goal.check_slots-loop-z-smaller-then-expression_kind-lt5
check_slots-loop-z-smaller-then-expression_kind-lt5 t c = search next_falls

pub check_slots-loop-z-preserved-then-expression_kind-lt5 : goal.check_slots-loop-z-preserved-then-expression_kind-lt5
check_slots-loop-z-preserved-then-expression_kind-lt5 t c = search (base_again, none_met _ _ c.in_ok-check_operand.was)

pub check_slots-check_expression-requires : goal.check_slots-check_expression-requires
check_slots-check_expression-requires t c = (search slot_falls, search slot_expression)

pub check_slots-returns-in_err-check_expression : goal.check_slots-returns-in_err-check_expression
check_slots-returns-in_err-check_expression t c =
    passed_end _ _ c.from_residual-in_err-check_expression.ensures.1 _ c.in_err-check_expression.was ∙ search (slots_met, some_met _ _ c.in_err-check_expression.was)

pub check_slots-loop-z-smaller : goal.check_slots-loop-z-smaller
check_slots-loop-z-smaller t c = search next_falls

pub check_slots-loop-z-preserved : goal.check_slots-loop-z-preserved
check_slots-loop-z-preserved t c = search (slots_again, none_met _ _ c.in_ok-check_expression.was)

pub check_slots-returns : goal.check_slots-returns
check_slots-returns t c = search slots_none
