use Rattle.start.proofs.Laws.{take_none, take_some, take_other}
use Rattle.start.proofs.take.Goals as goal

pub returns-in_default : goal.returns-in_default
returns-in_default c = search take_none

pub returns-then-j-k : goal.returns-then-j-k
returns-then-j-k c = search take_some

pub returns : goal.returns
returns c = search take_other
