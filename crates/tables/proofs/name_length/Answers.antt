use Rattle.tables.specs.Fields.{name_length}
use Rattle.tables.proofs.name_length.Goals as goal

pub returns : goal.returns
unfolding name_length
returns c = rw (c.word.ensures, c.wide.ensures)
