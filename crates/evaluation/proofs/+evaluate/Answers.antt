use borrow.Author.Rules.{rules}
use Rattle.evaluation.proofs.Laws.{slots_fall, evaluate_flat, evaluate_can_fill, evaluate_full, evaluate_falls, evaluate_frame}
use Rattle.evaluation.proofs.Laws.{fill_start, fill_size, fill_text_size, fill_done, fill_can_evaluate, fill_full, fill_falls, fill_again, base_again}
use Rattle.evaluation.proofs.+evaluate.Goals as goal

pub evaluate-flat-requires : goal.evaluate-flat-requires
evaluate-flat-requires t c = record { flat = search evaluate_flat; texts_full = search rules }

pub evaluate-fill-requires : goal.evaluate-fill-requires
evaluate-fill-requires t c = (search evaluate_falls, (search evaluate_can_fill, search evaluate_full))

pub evaluate-returns : goal.evaluate-returns
evaluate-returns t c = search evaluate_frame

pub fill-loop-z-init : goal.fill-loop-z-init
fill-loop-z-init t c = search fill_start

pub fill-loop-z-smaller-then-expression_kind-lt5 : goal.fill-loop-z-smaller-then-expression_kind-lt5
fill-loop-z-smaller-then-expression_kind-lt5 t c = search slots_fall

pub fill-loop-z-preserved-then-expression_kind-lt5 : goal.fill-loop-z-preserved-then-expression_kind-lt5
fill-loop-z-preserved-then-expression_kind-lt5 t c = search base_again

pub fill-evaluate-v-requires : goal.fill-evaluate-v-requires
fill-evaluate-v-requires t c = (search fill_falls, (search fill_can_evaluate, search fill_full))

pub fill-loop-z-smaller : goal.fill-loop-z-smaller
fill-loop-z-smaller t c = search slots_fall

pub fill-loop-z-preserved : goal.fill-loop-z-preserved
fill-loop-z-preserved t c = fill_again _ _ _ _ _ _ _ _ _ _ _ c.loop-z.invariant c.loop-z-test.true _ _ _ c.evaluate-v.ensures _ c.slot_name-in-loop-z.ensures _ c.add_slot-in-loop-z.ensures _ c.slot_after-z-in-loop-z.ensures

pub fill-shape_of-h : goal.fill-shape_of-h
fill-shape_of-h t c = search fill_size

pub fill-shape_of-t : goal.fill-shape_of-t
fill-shape_of-t t c = search fill_text_size

pub fill-returns : goal.fill-returns
fill-returns t c = search fill_done
