use Rattle.program_parts.specs.Tests.{codes_marked}
use Rattle.words.proofs.Laws.{upto_start, upto_end}
use Rattle.program_tests.proofs.Laws.{code_again}
use Rattle.program_tests.proofs.codes_marked.Goals as goal

pub loop-k-init : goal.loop-k-init
loop-k-init c = search upto_start

pub loop-k-preserved : goal.loop-k-preserved
loop-k-preserved c = search code_again

pub returns : goal.returns
unfolding codes_marked
returns c = search upto_end
