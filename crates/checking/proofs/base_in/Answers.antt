use Rattle.checking.proofs.Laws.{base_itself, base_negated}
use Rattle.checking.proofs.base_in.Goals as goal

pub returns-in_default : goal.returns-in_default
returns-in_default c = search base_itself

pub returns : goal.returns
returns c = search base_negated
