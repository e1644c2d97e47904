use Rattle.tables.specs.Fields.{slot_link}
use Rattle.tables.proofs.slot_link.Goals as goal

pub returns : goal.returns
unfolding slot_link
returns c = rw (c.word.ensures, c.wide.ensures)
