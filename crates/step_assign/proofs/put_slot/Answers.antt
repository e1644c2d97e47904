use Rattle.step_assign.proofs.Laws.{slot_added, slot_full, slot_free, slot_set}
use Rattle.step_assign.proofs.put_slot.Goals as goal

pub returns-then-slot_count-lt16 : goal.returns-then-slot_count-lt16
returns-then-slot_count-lt16 c = search slot_added

pub returns-then-frame_used : goal.returns-then-frame_used
returns-then-frame_used c = search slot_full

pub returns-in_default : goal.returns-in_default
returns-in_default c = search slot_free

pub returns : goal.returns
returns c = search slot_set
