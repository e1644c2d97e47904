use Rattle.tables.specs.Fields.{name_byte}
use Rattle.tables.proofs.name_byte.Goals as goal

pub returns : goal.returns
unfolding name_byte
returns c = rw (c.word.ensures, c.wide-2.ensures, c.wide.ensures)
