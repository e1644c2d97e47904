use Rattle.frame_form.specs.Tests.{frame_in_use}
use Rattle.frame_form.proofs.frame_in_use.Goals as goal

pub returns : goal.returns
unfolding frame_in_use
returns c = rw c.frame_used.ensures
