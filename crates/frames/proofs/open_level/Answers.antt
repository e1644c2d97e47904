use Rattle.frames.proofs.Laws.{open_deep, open_new}
use Rattle.frames.proofs.open_level.Goals as goal

pub returns-then-depth-ge17 : goal.returns-then-depth-ge17
returns-then-depth-ge17 c = search open_deep

pub returns : goal.returns
returns c = search open_new
