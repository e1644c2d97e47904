use Rattle.frame_form.specs.Tests.{text_in_use}
use Rattle.frame_form.proofs.text_in_use.Goals as goal

pub returns : goal.returns
unfolding text_in_use
returns c = rw c.text_used.ensures
