use native.Mathlib.Omega.{arith}
use mathlib.Core.Path.{◌∙◌}
use Rattle.needs.proofs.Laws.{frame_slots, frame_falls, made_frame, made_other, sign_few, counted_none, counted_all, slot_expression, slot_falls, next_falls, counted_more, counted_skip}
use Rattle.needs.proofs.+made.Goals as goal
use Rattle.needs.proofs.+made.Goals.{made_in-else-expression_kind-gt4, made_in-then-expression_kind-gt4}

pub made_in-loop-z-init : goal.made_in-loop-z-init
made_in-loop-z-init t c = search counted_none

pub made_in-made_of-requires : goal.made_in-made_of-requires
made_in-made_of-requires t c = (search slot_falls, search slot_expression)

pub made_in-loop-z-smaller : goal.made_in-loop-z-smaller
made_in-loop-z-smaller t c = search next_falls

pub made_in-loop-z-preserved : goal.made_in-loop-z-preserved
made_in-loop-z-preserved t c =
    elim c.if-expression_kind-gt4.branch [
      | made_in-then-expression_kind-gt4 w ↦ search (counted_more, w.made_of.ensures, w.n-is ∙ w.plus-n.ensures)
      | made_in-else-expression_kind-gt4 w ↦ search (counted_skip, w.if-expression_kind-gt4.false, w.n-is)
    ]

pub made_in-returns : goal.made_in-returns
made_in-returns t c = search counted_all

pub made_of-overflow_mul-result : goal.made_of-overflow_mul-result
made_of-overflow_mul-result t c = omega (arith, sign_few _ _ c.join_sign.ensures)

pub made_of-returns-in_default : goal.made_of-returns-in_default
made_of-returns-in_default t c = search made_other

pub made_of-made_in-requires : goal.made_of-made_in-requires
made_of-made_in-requires t c = (search frame_falls, search frame_slots)

pub made_of-returns : goal.made_of-returns
made_of-returns t c = search made_frame
