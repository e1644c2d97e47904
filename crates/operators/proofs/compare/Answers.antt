use Rattle.operators.proofs.Laws.{is_equal, is_and, is_or}
use Rattle.operators.proofs.compare.Goals as goal

pub returns-then-kind-eq13 : goal.returns-then-kind-eq13
returns-then-kind-eq13 c = search is_equal

pub returns-then-kind-eq14 : goal.returns-then-kind-eq14
returns-then-kind-eq14 c = search is_and

pub returns : goal.returns
returns c = search is_or
