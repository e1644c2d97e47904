use Rattle.emit_steps.proofs.Laws.{pass_none, pass_one, pass_other}
use Rattle.emit_steps.proofs.pass.Goals as goal

pub returns-in_default : goal.returns-in_default
returns-in_default c = search pass_none

pub returns-then-j-k : goal.returns-then-j-k
returns-then-j-k c = search pass_one

pub returns : goal.returns
returns c = search pass_other
