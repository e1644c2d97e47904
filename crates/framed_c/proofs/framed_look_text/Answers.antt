use Rattle.framed_c.proofs.Look.{text_copied}
use Rattle.framed_c.proofs.framed_look_text.Goals as goal

pub returns : goal.returns
returns c = text_copied _ _ _ _ _ _ _ _ c.look_text-bytes.ensures.meaning c.write.ensures
