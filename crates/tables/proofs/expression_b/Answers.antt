use Rattle.tables.specs.Fields.{expression_b}
use Rattle.tables.proofs.expression_b.Goals as goal

pub returns : goal.returns
unfolding expression_b
returns c = rw (c.word.ensures, c.wide.ensures)
