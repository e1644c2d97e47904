use Rattle.splice.proofs.Laws.{writing_start, writing_done, writing_again}
use Rattle.splice.proofs.copy.Goals as goal

pub loop-i-init : goal.loop-i-init
loop-i-init c = search writing_start

pub loop-i-preserved : goal.loop-i-preserved
loop-i-preserved c = search writing_again

pub returns : goal.returns
returns c = search writing_done
