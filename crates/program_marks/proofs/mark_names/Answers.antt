use Rattle.program_marks.proofs.Laws.{done_start, names_again, names_done}
use Rattle.program_marks.proofs.mark_names.Goals as goal

pub loop-x-init : goal.loop-x-init
loop-x-init c = search done_start

pub loop-x-preserved : goal.loop-x-preserved
loop-x-preserved c = search names_again

pub returns : goal.returns
returns c = search names_done
