use Rattle.paths.proofs.Laws.{find_start, find_gone, find_here, find_again}
use Rattle.paths.proofs.find_slot.Goals as goal

pub loop-i-init : goal.loop-i-init
loop-i-init c = search find_start

pub returns-then-slot_name-name : goal.returns-then-slot_name-name
returns-then-slot_name-name c = search find_here

pub loop-i-preserved : goal.loop-i-preserved
loop-i-preserved c = search find_again

pub returns : goal.returns
returns c = search find_gone
