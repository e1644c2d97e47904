use Rattle.frame_form.specs.Tests.{slots_formed}
use Rattle.words.proofs.Laws.{upto_start, upto_again, upto_done}
use Rattle.frame_form.proofs.slots_formed.Goals as goal

pub loop-i-init : goal.loop-i-init
loop-i-init c = search upto_start

pub loop-i-preserved : goal.loop-i-preserved
loop-i-preserved c = search upto_again

pub returns : goal.returns
unfolding slots_formed
returns c = search upto_done
