use Rattle.start_code.proofs.Laws.{find_start, find_end, find_none, find_here, find_again}
use Rattle.start_code.proofs.find_slot.Goals as goal

pub loop-i-init : goal.loop-i-init
loop-i-init c = search find_start

pub returns-then-z-eq0 : goal.returns-then-z-eq0
returns-then-z-eq0 c = search find_none

pub returns-then-name-slot_name : goal.returns-then-name-slot_name
returns-then-name-slot_name c = search (find_here, c.if-name-slot_name.true, c.loop-i.invariant)

pub loop-i-preserved : goal.loop-i-preserved
loop-i-preserved c = search find_again

pub returns : goal.returns
returns c = search find_end
