use Rattle.emit_leaves.proofs.Laws.{slot_next, slot_none}
use Rattle.emit_leaves.proofs.slot_link.Goals as goal

pub returns-then-k-eq25 : goal.returns-then-k-eq25
returns-then-k-eq25 c = search slot_next

pub returns : goal.returns
returns c = search slot_none
