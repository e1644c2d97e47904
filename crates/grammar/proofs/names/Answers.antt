use Rattle.grammar.proofs.Paths.{leads_less, names_start, names_stop, names_again}
use Rattle.grammar.proofs.names.Goals as goal

pub loop-p-init : goal.loop-p-init
loop-p-init c = search names_start

pub loop-p-smaller : goal.loop-p-smaller
loop-p-smaller c = search leads_less

pub loop-p-preserved : goal.loop-p-preserved
loop-p-preserved c = search names_again

pub returns : goal.returns
returns c = search names_stop
