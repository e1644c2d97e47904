use Rattle.program_marks.proofs.Laws.{marking_start, marking_again, marking_ended, marking_ended_size, marking_done, marking_size}
use Rattle.program_marks.proofs.mark_slots.Goals as goal

pub loop-j-init : goal.loop-j-init
loop-j-init c = search marking_start

pub shape_of-m-then-y-eq0 : goal.shape_of-m-then-y-eq0
shape_of-m-then-y-eq0 c = search marking_ended_size

pub returns-then-y-eq0 : goal.returns-then-y-eq0
returns-then-y-eq0 c = search marking_ended

pub loop-j-preserved : goal.loop-j-preserved
loop-j-preserved c = search marking_again

pub shape_of-m : goal.shape_of-m
shape_of-m c = search marking_size

pub returns : goal.returns
returns c = search marking_done
