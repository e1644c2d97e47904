use Rattle.tables.specs.Fields.{expression_kind}
use Rattle.tables.proofs.expression_kind.Goals as goal

pub returns : goal.returns
unfolding expression_kind
returns c = rw (c.word.ensures, c.wide.ensures)
