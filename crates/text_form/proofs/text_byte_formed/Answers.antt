use Rattle.text_form.specs.Tests.{text_byte_formed}
use Rattle.text_form.proofs.text_byte_formed.Goals as goal

pub returns : goal.returns
unfolding text_byte_formed
returns c = rw c.text_byte-b.ensures
