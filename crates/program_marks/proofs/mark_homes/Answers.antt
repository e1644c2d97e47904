use Rattle.program_marks.proofs.Laws.{done_start, homes_again, homes_done}
use Rattle.program_marks.proofs.mark_homes.Goals as goal

pub loop-x-init : goal.loop-x-init
loop-x-init c = search done_start

pub loop-x-preserved : goal.loop-x-preserved
loop-x-preserved c = search homes_again

pub returns : goal.returns
returns c = search homes_done
