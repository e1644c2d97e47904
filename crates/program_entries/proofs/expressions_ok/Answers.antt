use Rattle.program_entries.specs.Tests.{expressions_ok}
use Rattle.words.proofs.Laws.{upto_start, upto_again, upto_end}
use Rattle.program_entries.proofs.expressions_ok.Goals as goal

pub loop-x-init : goal.loop-x-init
loop-x-init c = search upto_start

pub loop-x-preserved : goal.loop-x-preserved
loop-x-preserved c = search upto_again

pub returns : goal.returns
unfolding expressions_ok
returns c = search upto_end
