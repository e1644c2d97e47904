use Rattle.lexeme.proofs.Laws.{numbering_start, numbering_again, numbering_done}
use Rattle.lexeme.proofs.number_of.Goals as goal

pub loop-i-init : goal.loop-i-init
loop-i-init c = search numbering_start

pub loop-i-preserved : goal.loop-i-preserved
loop-i-preserved c = search numbering_again

pub returns : goal.returns
returns c = search numbering_done
