use Rattle.survey.proofs.Laws.{count_next, count_same}
use Rattle.survey.proofs.count_after.Goals as goal

pub returns-then-j-n : goal.returns-then-j-n
returns-then-j-n c = search count_next

pub returns : goal.returns
returns c = search count_same
