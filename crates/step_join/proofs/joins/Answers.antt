use Rattle.step_join.proofs.Laws.{joins_other, joins_by_kind}
use Rattle.step_join.proofs.joins.Goals as goal

pub returns-then-instruction_kind-ge2 : goal.returns-then-instruction_kind-ge2
returns-then-instruction_kind-ge2 c = search joins_other

pub returns : goal.returns
returns c = search joins_by_kind
