use Rattle.tables.proofs.Walks.{along_start}
use Rattle.program_tests.proofs.Laws.{along_again, along_none, along_done}
use Rattle.program_tests.proofs.slots_marked.Goals as goal

pub loop-j-init : goal.loop-j-init
loop-j-init c = search along_start

pub returns-then-y-eq0 : goal.returns-then-y-eq0
returns-then-y-eq0 c = search along_none

pub loop-j-preserved : goal.loop-j-preserved
loop-j-preserved c = search along_again

pub returns : goal.returns
returns c = search along_done
