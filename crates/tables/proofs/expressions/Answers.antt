use Rattle.tables.specs.Fields.{expressions}
use Rattle.tables.proofs.expressions.Goals as goal

pub returns : goal.returns
unfolding expressions
returns c = c.word.ensures
