use Rattle.tables.specs.Fields.{slot_after}
use Rattle.tables.proofs.slot_after.Goals as goal

pub returns : goal.returns
unfolding slot_after
returns c = rw (c.link.ensures, c.slot_link.ensures)
