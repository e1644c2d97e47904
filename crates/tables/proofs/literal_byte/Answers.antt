use Rattle.tables.specs.Fields.{literal_byte}
use Rattle.tables.proofs.literal_byte.Goals as goal

pub returns : goal.returns
unfolding literal_byte
returns c = rw (c.word.ensures, c.wide-2.ensures, c.wide.ensures)
