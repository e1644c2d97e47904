use Rattle.tables.specs.Fields.{literals}
use Rattle.tables.proofs.literals.Goals as goal

pub returns : goal.returns
unfolding literals
returns c = c.word.ensures
