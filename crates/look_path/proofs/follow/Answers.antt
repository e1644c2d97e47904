use Rattle.look_path.proofs.Laws.{follow_start, follow_end, follow_other, follow_less, follow_again, follow_done}
use Rattle.look_path.proofs.follow.Goals as goal

pub loop-at-init : goal.loop-at-init
loop-at-init c = search follow_start

pub returns-in-End : goal.returns-in-End
returns-in-End c = search follow_end

pub returns-in-Other : goal.returns-in-Other
returns-in-Other c = search follow_other

pub loop-at-smaller : goal.loop-at-smaller
loop-at-smaller c = search follow_less

pub loop-at-preserved : goal.loop-at-preserved
loop-at-preserved c = search follow_again

pub returns : goal.returns
returns c = search follow_done
