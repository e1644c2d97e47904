use Rattle.grammar.proofs.Paths.{leads_less, ups_start, ups_stop, ups_again}
use Rattle.grammar.proofs.ups.Goals as goal

pub loop-p-init : goal.loop-p-init
loop-p-init c = search ups_start

pub loop-p-smaller : goal.loop-p-smaller
loop-p-smaller c = search leads_less

pub loop-p-preserved : goal.loop-p-preserved
loop-p-preserved c = search ups_again

pub returns : goal.returns
returns c = search ups_stop
