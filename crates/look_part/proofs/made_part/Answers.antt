use Rattle.look_part.proofs.Laws.{made_past, made_here}
use Rattle.look_part.proofs.made_part.Goals as goal

pub returns-then-k-ge256 : goal.returns-then-k-ge256
returns-then-k-ge256 c = search made_past

pub returns : goal.returns
returns c = search made_here
