use Rattle.spaces.proofs.Laws.{skipping_start, skipping_stop, skipping_again, skipping_less, skipping_done}
use Rattle.spaces.proofs.skip.Goals as goal

pub loop-i-init : goal.loop-i-init
loop-i-init c = search skipping_start

pub returns-then-j-i : goal.returns-then-j-i
returns-then-j-i c = search skipping_stop

pub loop-i-smaller : goal.loop-i-smaller
loop-i-smaller c = search skipping_less

pub loop-i-preserved : goal.loop-i-preserved
loop-i-preserved c = search skipping_again

pub returns : goal.returns
returns c = search skipping_done
