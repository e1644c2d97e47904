use Rattle.program_marks.proofs.Laws.{done_start, expressions_again, expressions_done}
use Rattle.program_marks.proofs.mark_expressions.Goals as goal

pub loop-x-init : goal.loop-x-init
loop-x-init c = search done_start

pub loop-x-preserved : goal.loop-x-preserved
loop-x-preserved c = search expressions_again

pub returns : goal.returns
returns c = search expressions_done
