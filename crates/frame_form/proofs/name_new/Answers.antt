use Rattle.frame_form.specs.Tests.{name_new}
use Rattle.words.proofs.Laws.{upto_start, upto_again, upto_done}
use Rattle.frame_form.proofs.name_new.Goals as goal

pub loop-j-init : goal.loop-j-init
loop-j-init c = search upto_start

pub loop-j-preserved : goal.loop-j-preserved
loop-j-preserved c = search upto_again

pub returns : goal.returns
unfolding name_new
returns c = search upto_done
