use Rattle.tables.specs.Fields.{start}
use Rattle.tables.proofs.start.Goals as goal

pub returns : goal.returns
unfolding start
returns c = c.word.ensures
