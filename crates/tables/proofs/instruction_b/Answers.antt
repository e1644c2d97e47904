use Rattle.tables.specs.Fields.{instruction_b}
use Rattle.tables.proofs.instruction_b.Goals as goal

pub returns : goal.returns
unfolding instruction_b
returns c = rw (c.word.ensures, c.wide.ensures)
