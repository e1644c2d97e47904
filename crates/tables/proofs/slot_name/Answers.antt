use Rattle.tables.specs.Fields.{slot_name}
use Rattle.tables.proofs.slot_name.Goals as goal

pub returns : goal.returns
unfolding slot_name
returns c = rw (c.word.ensures, c.wide.ensures)
