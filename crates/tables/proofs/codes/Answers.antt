use Rattle.tables.specs.Fields.{codes}
use Rattle.tables.proofs.codes.Goals as goal

pub returns : goal.returns
unfolding codes
returns c = c.word.ensures
