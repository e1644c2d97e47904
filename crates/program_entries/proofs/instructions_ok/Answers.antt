use Rattle.program_entries.specs.Tests.{instructions_ok}
use Rattle.words.proofs.Laws.{upto_start, upto_again, upto_end}
use Rattle.program_entries.proofs.instructions_ok.Goals as goal

pub loop-i-init : goal.loop-i-init
loop-i-init c = search upto_start

pub loop-i-preserved : goal.loop-i-preserved
loop-i-preserved c = search upto_again

pub returns : goal.returns
unfolding instructions_ok
returns c = search upto_end
