use Rattle.program_names.specs.Tests.{path_names_ok}
use Rattle.words.proofs.Laws.{upto_start, upto_again, upto_end}
use Rattle.program_names.proofs.path_names_ok.Goals as goal

pub loop-j-init : goal.loop-j-init
loop-j-init c = search upto_start

pub loop-j-preserved : goal.loop-j-preserved
loop-j-preserved c = search upto_again

pub returns : goal.returns
unfolding path_names_ok
returns c = search upto_end
