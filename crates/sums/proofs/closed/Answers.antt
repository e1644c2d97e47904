use Rattle.sums.proofs.Laws.{closed_inside, closed_outside}
use Rattle.sums.proofs.closed.Goals as goal

pub returns-then-curly-ne0 : goal.returns-then-curly-ne0
returns-then-curly-ne0 c = search closed_inside

pub returns : goal.returns
returns c = search closed_outside
