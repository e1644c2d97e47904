use Rattle.producing.proofs.Laws.{read_base, read_not_true, read_not_false}
use Rattle.producing.proofs.read.Goals as goal

pub returns-in_default : goal.returns-in_default
returns-in_default c = search read_base

pub returns-then-truth : goal.returns-then-truth
returns-then-truth c = search read_not_true

pub returns : goal.returns
returns c = search read_not_false
