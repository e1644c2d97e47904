use Rattle.tables.proofs.Walks.{along_start}
use Rattle.program_entries.proofs.Laws.{slots_ended, slot_again, slots_done}
use Rattle.program_entries.proofs.slots_ok.Goals as goal

pub loop-j-init : goal.loop-j-init
loop-j-init c = search along_start

pub returns-then-y-eq0 : goal.returns-then-y-eq0
returns-then-y-eq0 c = search slots_ended

pub loop-j-preserved : goal.loop-j-preserved
loop-j-preserved c = search slot_again

pub returns : goal.returns
returns c = search slots_done
