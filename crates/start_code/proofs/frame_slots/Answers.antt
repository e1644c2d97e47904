use Rattle.start_code.proofs.Laws.{slots_none, slots_here, slots_other}
use Rattle.start_code.proofs.frame_slots.Goals as goal

pub returns-then-z-eq0 : goal.returns-then-z-eq0
returns-then-z-eq0 c = search slots_none

pub returns-in_default : goal.returns-in_default
returns-in_default c = search slots_other

pub returns : goal.returns
returns c = search slots_here
