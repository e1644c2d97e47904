use Rattle.tables.specs.Fields.{expression_a}
use Rattle.tables.proofs.expression_a.Goals as goal

pub returns : goal.returns
unfolding expression_a
returns c = rw (c.word.ensures, c.wide.ensures)
