use Rattle.slots.proofs.Laws.{pass_start, pass_end, pass_none, pass_bad, pass_again, pass_less, pass_done}
use Rattle.slots.proofs.bad_frame.Goals as goal

pub loop-at-init : goal.loop-at-init
loop-at-init c = search pass_start

pub returns-in-End : goal.returns-in-End
returns-in-End c = search pass_end

pub returns-in-NoToken : goal.returns-in-NoToken
returns-in-NoToken c = search pass_none

pub returns-then-r : goal.returns-then-r
returns-then-r c = search pass_bad

pub loop-at-smaller : goal.loop-at-smaller
loop-at-smaller c = search pass_less

pub loop-at-preserved : goal.loop-at-preserved
loop-at-preserved c = search pass_again

pub returns : goal.returns
returns c = search pass_done
