use Rattle.words.proofs.Laws.{upto_start, upto_again, upto_done}
use Rattle.program_names.specs.Tests.{literal_bytes_ok}
use Rattle.program_names.proofs.Laws.{literal_bytes_end}
use Rattle.program_names.proofs.literal_bytes_ok.Goals as goal

pub loop-i-init : goal.loop-i-init
loop-i-init c = search upto_start

pub returns-then-n-i : goal.returns-then-n-i
returns-then-n-i c = search literal_bytes_end

pub loop-i-preserved : goal.loop-i-preserved
loop-i-preserved c = search upto_again

pub returns : goal.returns
unfolding literal_bytes_ok
returns c = search upto_done
