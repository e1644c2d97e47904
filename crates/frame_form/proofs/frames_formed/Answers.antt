use Rattle.frame_form.specs.Tests.{frames_formed}
use Rattle.words.proofs.Laws.{upto_start, upto_again, upto_done}
use Rattle.frame_form.proofs.frames_formed.Goals as goal

pub loop-f-init : goal.loop-f-init
loop-f-init c = search upto_start

pub loop-f-preserved : goal.loop-f-preserved
loop-f-preserved c = search upto_again

pub returns : goal.returns
unfolding frames_formed
returns c = search upto_done
