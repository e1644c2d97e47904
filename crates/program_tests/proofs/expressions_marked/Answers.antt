use Rattle.program_parts.specs.Tests.{expressions_marked}
use Rattle.words.proofs.Laws.{upto_start, upto_end}
use Rattle.program_tests.proofs.Laws.{expression_again}
use Rattle.program_tests.proofs.expressions_marked.Goals as goal

pub loop-x-init : goal.loop-x-init
loop-x-init c = search upto_start

pub loop-x-preserved : goal.loop-x-preserved
loop-x-preserved c = search expression_again

pub returns : goal.returns
unfolding expressions_marked
returns c = search upto_end
