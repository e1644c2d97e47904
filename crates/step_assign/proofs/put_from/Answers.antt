use Rattle.step_assign.proofs.Laws.{from_empty, from_root}
use Rattle.step_assign.proofs.put_from.Goals as goal

pub returns-then-n-eq0 : goal.returns-then-n-eq0
returns-then-n-eq0 c = search from_empty

pub returns : goal.returns
returns c = search from_root
