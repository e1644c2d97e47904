use Rattle.tables.specs.Fields.{instruction_link}
use Rattle.tables.proofs.instruction_link.Goals as goal

pub returns : goal.returns
unfolding instruction_link
returns c = rw (c.word.ensures, c.wide.ensures)
