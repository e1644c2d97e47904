use Rattle.program_marks.proofs.Laws.{done_start, firsts_again, firsts_done}
use Rattle.program_marks.proofs.mark_firsts.Goals as goal

pub loop-k-init : goal.loop-k-init
loop-k-init c = search done_start

pub loop-k-preserved : goal.loop-k-preserved
loop-k-preserved c = search firsts_again

pub returns : goal.returns
returns c = search firsts_done
