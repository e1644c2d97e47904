use Rattle.look_path.proofs.Laws.{name_none, name_other, name_here}
use Rattle.look_path.proofs.name_at.Goals as goal

pub returns-in_default : goal.returns-in_default
returns-in_default c = search name_none

pub returns-then-k-ne25 : goal.returns-then-k-ne25
returns-then-k-ne25 c = search name_other

pub returns : goal.returns
returns c = search name_here
