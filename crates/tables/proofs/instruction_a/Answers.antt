use Rattle.tables.specs.Fields.{instruction_a}
use Rattle.tables.proofs.instruction_a.Goals as goal

pub returns : goal.returns
unfolding instruction_a
returns c = rw (c.word.ensures, c.wide.ensures)
