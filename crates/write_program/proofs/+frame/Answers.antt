use native.Mathlib.Omega.{arith}
use mathlib.Core.Path.{◌∙◌}
use lib.ListN.{length-set}
use Rattle.write_program.proofs.Laws.{write_next, can_second, frame_falls}
use Rattle.write_program.proofs.Loops.{slots_size, slots_can, slot_can, slot_named, slots_less, slot_falls}
use Rattle.write_program.proofs.Outside.{outside_inside, outside_within, outside_count, outside_plain, outside_inner, outside_frame, frame_start}
use Rattle.write_program.proofs.Outside.{frame_past, frame_end, frame_size, frame_slot, frame_again}
use Rattle.write_program.proofs.+frame.Goals as goal

pub frame_text-loop-z-init : goal.frame_text-loop-z-init
frame_text-loop-z-init t c = search frame_start

pub frame_text-shape_of-g-then-limit-b : goal.frame_text-shape_of-g-then-limit-b
frame_text-shape_of-g-then-limit-b t c = search frame_size

pub frame_text-shape_of-m-then-limit-b : goal.frame_text-shape_of-m-then-limit-b
frame_text-shape_of-m-then-limit-b t c = search slots_size

pub frame_text-returns-then-limit-b : goal.frame_text-returns-then-limit-b
frame_text-returns-then-limit-b t c = search frame_past

pub frame_text-slot_head-c-requires : goal.frame_text-slot_head-c-requires
frame_text-slot_head-c-requires t c = record { at_name = search slot_named; can_append = search slots_can }

pub frame_text-outside_text-b-requires : goal.frame_text-outside_text-b-requires
frame_text-outside_text-b-requires t c = (search slot_falls, (search (slot_can, c.slot_head-c.ensures), search frame_slot))

pub frame_text-loop-z-smaller : goal.frame_text-loop-z-smaller
frame_text-loop-z-smaller t c = search slots_less

pub frame_text-loop-z-preserved : goal.frame_text-loop-z-preserved
frame_text-loop-z-preserved t c = search frame_again

pub frame_text-shape_of-g : goal.frame_text-shape_of-g
frame_text-shape_of-g t c = search frame_size

pub frame_text-shape_of-m : goal.frame_text-shape_of-m
frame_text-shape_of-m t c = search slots_size

pub frame_text-returns : goal.frame_text-returns
frame_text-returns t c = search frame_end

pub outside_text-slice_bounds-expression_text-end : goal.outside_text-slice_bounds-expression_text-end
outside_text-slice_bounds-expression_text-end t c = search outside_within

pub outside_text-slice_bounds-expression_text-end-in_default : goal.outside_text-slice_bounds-expression_text-end-in_default
outside_text-slice_bounds-expression_text-end-in_default t c = search outside_count

pub outside_text-returns-in_default : goal.outside_text-returns-in_default
outside_text-returns-in_default t c = search outside_plain

pub outside_text-bounds-g-depth : goal.outside_text-bounds-g-depth
outside_text-bounds-g-depth t c = search outside_inside

pub outside_text-frame_text-b-requires : goal.outside_text-frame_text-b-requires
outside_text-frame_text-b-requires t c =
    (search frame_falls, (write_next c.requires.can_write c.append-a.ensures, outside_inner c.requires.can_write c.requires.outside_slot _ c.expression_at.ensures _ _ c.in-Frame.is c.link.ensures _ _ (omega arith)))

pub outside_text-append-requires : goal.outside_text-append-requires
outside_text-append-requires t c = search (can_second, c.append-a.ensures, c.frame_text-b.ensures.appended)

pub outside_text-shape_of-g : goal.outside_text-shape_of-g
outside_text-shape_of-g t c = c.frame_text-b.auto.g ∙ simp length-set

pub outside_text-returns : goal.outside_text-returns
outside_text-returns t c =
    outside_frame c.requires.can_write c.requires.outside_slot _ c.expression_at.ensures _ _ c.in-Frame.is c.link.ensures _ c.slot_name.ensures c.append-a.ensures c.frame_text-b.ensures c.append.ensures
