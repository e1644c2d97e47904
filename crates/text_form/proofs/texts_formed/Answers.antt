use Rattle.text_form.specs.Tests.{texts_formed}
use Rattle.words.proofs.Laws.{upto_start, upto_again, upto_done}
use Rattle.text_form.proofs.texts_formed.Goals as goal

pub loop-k-init : goal.loop-k-init
loop-k-init c = search upto_start

pub loop-k-preserved : goal.loop-k-preserved
loop-k-preserved c = search upto_again

pub returns : goal.returns
unfolding texts_formed
returns c = search upto_done
