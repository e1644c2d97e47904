use Rattle.tables.specs.Fields.{names}
use Rattle.tables.proofs.names.Goals as goal

pub returns : goal.returns
unfolding names
returns c = c.word.ensures
