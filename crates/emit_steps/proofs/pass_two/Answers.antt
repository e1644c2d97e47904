use Rattle.emit_steps.proofs.Laws.{two_none, two_half, two_both}
use Rattle.emit_steps.proofs.pass_two.Goals as goal

pub returns-then-p-at : goal.returns-then-p-at
returns-then-p-at c = search two_none

pub returns-then-q-p : goal.returns-then-q-p
returns-then-q-p c = search two_half

pub returns : goal.returns
returns c = search two_both
