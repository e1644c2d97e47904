use Rattle.sums.proofs.Laws.{one_yes, one_not}
use Rattle.sums.proofs.outside.Goals as goal

pub returns-then-curly-eq0 : goal.returns-then-curly-eq0
returns-then-curly-eq0 c = search one_yes

pub returns-else-curly-eq0 : goal.returns-else-curly-eq0
returns-else-curly-eq0 c = search one_not
