use Rattle.program_marks.proofs.Laws.{done_start, instructions_again, instructions_done}
use Rattle.program_marks.proofs.mark_instructions.Goals as goal

pub loop-i-init : goal.loop-i-init
loop-i-init c = search done_start

pub loop-i-preserved : goal.loop-i-preserved
loop-i-preserved c = search instructions_again

pub returns : goal.returns
returns c = search instructions_done
