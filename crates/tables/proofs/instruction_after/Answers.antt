use Rattle.tables.specs.Fields.{instruction_after}
use Rattle.tables.proofs.instruction_after.Goals as goal

pub returns : goal.returns
unfolding instruction_after
returns c = rw (c.link.ensures, c.instruction_link.ensures)
