use Rattle.slots.proofs.Laws.{added_slot, added_not}
use Rattle.slots.proofs.add_slot.Goals as goal

pub returns-then-slot : goal.returns-then-slot
returns-then-slot c = search added_slot

pub returns : goal.returns
returns c = search added_not
