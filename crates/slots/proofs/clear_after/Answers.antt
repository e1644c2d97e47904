use Rattle.slots.proofs.Laws.{clear_other, clear_frame, clear_more}
use Rattle.slots.proofs.clear_after.Goals as goal

pub returns-then-clear-at : goal.returns-then-clear-at
returns-then-clear-at c = search clear_other

pub returns-then-k-eq12 : goal.returns-then-k-eq12
returns-then-k-eq12 c = search clear_frame

pub returns : goal.returns
returns c = search clear_more
