use Rattle.slots.proofs.Laws.{opens_frame, opens_not}
use Rattle.slots.proofs.opens_bad.Goals as goal

pub returns-then-k-eq12 : goal.returns-then-k-eq12
returns-then-k-eq12 c = search opens_frame

pub returns : goal.returns
returns c = search opens_not
