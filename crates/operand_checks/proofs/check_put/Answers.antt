use Rattle.operand_checks.proofs.Laws.{put_empty, put_along}
use Rattle.operand_checks.proofs.check_put.Goals as goal

pub returns-then-n-eq0 : goal.returns-then-n-eq0
returns-then-n-eq0 c = search put_empty

pub returns : goal.returns
returns c = search put_along
