use Rattle.program_entries.specs.Tests.{codes_ok}
use Rattle.words.proofs.Laws.{upto_start, upto_again, upto_end}
use Rattle.program_entries.proofs.codes_ok.Goals as goal

pub loop-k-init : goal.loop-k-init
loop-k-init c = search upto_start

pub loop-k-preserved : goal.loop-k-preserved
loop-k-preserved c = search upto_again

pub returns : goal.returns
unfolding codes_ok
returns c = search upto_end
