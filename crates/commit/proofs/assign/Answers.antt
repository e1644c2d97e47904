use Rattle.commit.proofs.Laws.{sets_root, puts_root}
use Rattle.commit.proofs.assign.Goals as goal

pub returns-then-n-eq0 : goal.returns-then-n-eq0
returns-then-n-eq0 c = search sets_root

pub returns : goal.returns
returns c = search puts_root
