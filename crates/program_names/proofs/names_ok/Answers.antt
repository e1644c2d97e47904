use Rattle.program_names.proofs.Keys.{keyed_start, keyed_again, keyed_done}
use Rattle.program_names.proofs.names_ok.Goals as goal

pub loop-k-init : goal.loop-k-init
loop-k-init c = search keyed_start

pub loop-k-preserved : goal.loop-k-preserved
loop-k-preserved c = search keyed_again

pub returns : goal.returns
returns c = search keyed_done
