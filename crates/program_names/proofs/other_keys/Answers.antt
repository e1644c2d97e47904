use Rattle.words.proofs.Laws.{upto_start, upto_done}
use Rattle.program_names.specs.Keys.{other_keys}
use Rattle.program_names.proofs.Keys.{other_again}
use Rattle.program_names.proofs.other_keys.Goals as goal

pub loop-j-init : goal.loop-j-init
loop-j-init c = search upto_start

pub loop-j-preserved : goal.loop-j-preserved
loop-j-preserved c = search other_again

pub returns : goal.returns
unfolding other_keys
returns c = search upto_done
