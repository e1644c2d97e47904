use Rattle.program_names.specs.Tests.{new_name}
use Rattle.words.proofs.Laws.{upto_start, upto_again, upto_done}
use Rattle.program_names.proofs.new_name.Goals as goal

pub loop-j-init : goal.loop-j-init
loop-j-init c = search upto_start

pub loop-j-preserved : goal.loop-j-preserved
loop-j-preserved c = search upto_again

pub returns : goal.returns
unfolding new_name
returns c = search upto_done
