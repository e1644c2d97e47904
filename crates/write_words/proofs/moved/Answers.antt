use Rattle.write_words.proofs.Laws.{moved_is}
use Rattle.write_words.proofs.moved.Goals as goal

pub returns : goal.returns
returns c = moved_is _ _ _ _ _ c.requires.1 c.saturating_add.ensures c.min.ensures
