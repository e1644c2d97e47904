use Rattle.program_marks.proofs.Laws.{done_start, nexts_again, nexts_done}
use Rattle.program_marks.proofs.mark_nexts.Goals as goal

pub loop-i-init : goal.loop-i-init
loop-i-init c = search done_start

pub loop-i-preserved : goal.loop-i-preserved
loop-i-preserved c = search nexts_again

pub returns : goal.returns
returns c = search nexts_done
