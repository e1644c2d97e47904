use Rattle.emit_leaves.proofs.Laws.{slot_end}
use Rattle.emit_leaves.proofs.close_slot.Goals as goal

pub returns : goal.returns
returns c = search slot_end
