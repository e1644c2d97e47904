use Rattle.tables.proofs.Walks.{along_start}
use Rattle.program_entries.proofs.Laws.{other_ended, other_again, other_done}
use Rattle.program_entries.proofs.other_names.Goals as goal

pub loop-j-init : goal.loop-j-init
loop-j-init c = search along_start

pub returns-then-y-eq0 : goal.returns-then-y-eq0
returns-then-y-eq0 c = search other_ended

pub loop-j-preserved : goal.loop-j-preserved
loop-j-preserved c = search other_again

pub returns : goal.returns
returns c = search other_done
