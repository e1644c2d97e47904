use Rattle.sums.proofs.Laws.{climb_first, climb_near, climb_far}
use Rattle.sums.proofs.up.Goals as goal

pub returns-then-last-ne7 : goal.returns-then-last-ne7
returns-then-last-ne7 c = search climb_first

pub returns-then-t-levels : goal.returns-then-t-levels
returns-then-t-levels c = search climb_near

pub returns-else-t-levels : goal.returns-else-t-levels
returns-else-t-levels c = search climb_far
