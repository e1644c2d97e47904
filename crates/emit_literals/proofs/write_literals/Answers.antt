use Rattle.emit_literals.proofs.Laws.{passing_start, passing_again, passing_done}
use Rattle.emit_literals.proofs.write_literals.Goals as goal

pub loop-k-init : goal.loop-k-init
loop-k-init c = search passing_start

pub loop-k-preserved : goal.loop-k-preserved
loop-k-preserved c = search passing_again

pub returns : goal.returns
returns c = search passing_done
