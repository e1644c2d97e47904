use Rattle.tables.specs.Fields.{literal_length}
use Rattle.tables.proofs.literal_length.Goals as goal

pub returns : goal.returns
unfolding literal_length
returns c = rw (c.word.ensures, c.wide.ensures)
