use Rattle.program_parts.specs.Tests.{instructions_marked}
use Rattle.words.proofs.Laws.{upto_start, upto_end}
use Rattle.program_tests.proofs.Laws.{instruction_again}
use Rattle.program_tests.proofs.instructions_marked.Goals as goal

pub loop-i-init : goal.loop-i-init
loop-i-init c = search upto_start

pub loop-i-preserved : goal.loop-i-preserved
loop-i-preserved c = search instruction_again

pub returns : goal.returns
unfolding instructions_marked
returns c = search upto_end
