use Rattle.frame_form.proofs.Laws.{frame_off, frame_many, frame_on}
use Rattle.frame_form.proofs.frame_formed.Goals as goal

pub returns-then-w-eq0 : goal.returns-then-w-eq0
returns-then-w-eq0 c = search frame_off

pub returns-then-n-gt16 : goal.returns-then-n-gt16
returns-then-n-gt16 c = search frame_many

pub returns : goal.returns
returns c = search frame_on
