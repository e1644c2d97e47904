use Rattle.tables.specs.Fields.{frame_limit}
use Rattle.tables.proofs.frame_limit.Goals as goal

pub returns : goal.returns
unfolding frame_limit
returns c = c.word.ensures
