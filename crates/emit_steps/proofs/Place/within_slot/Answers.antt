use Rattle.emit_steps.proofs.Laws.{slot_in_code, slot_deep, slot_deeper}
use Rattle.emit_steps.proofs.Place.within_slot.Goals as goal

pub returns-then-self : goal.returns-then-self
returns-then-self c = search slot_in_code

pub returns-then-self-ge16 : goal.returns-then-self-ge16
returns-then-self-ge16 c = search slot_deep

pub returns : goal.returns
returns c = search slot_deeper
