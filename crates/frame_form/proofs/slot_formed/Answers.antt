use Rattle.frame_form.specs.Tests.{slot_formed}
use Rattle.frame_form.proofs.slot_formed.Goals as goal

pub returns : goal.returns
unfolding slot_formed
returns c =
    rw (c.name_new.ensures, c.value_formed.ensures, c.slot_number.ensures, c.slot_tag.ensures, c.slot_name.ensures)
