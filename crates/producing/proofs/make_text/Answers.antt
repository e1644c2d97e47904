use Rattle.producing.proofs.Laws.{text_made}
use Rattle.producing.proofs.make_text.Goals as goal

pub returns : goal.returns
returns c =
    text_made _ _ _ _ _ _ _ c.lowest_text-k.ensures c.wide.ensures c.write.ensures c.take_text.ensures
