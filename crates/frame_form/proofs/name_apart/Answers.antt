use Rattle.frame_form.specs.Tests.{name_apart}
use Rattle.frame_form.proofs.name_apart.Goals as goal

pub returns : goal.returns
unfolding name_apart
returns c = rw (c.slot_name.ensures, c.slot_name-2.ensures)
