use Rattle.tables.specs.Fields.{instruction_c}
use Rattle.tables.proofs.instruction_c.Goals as goal

pub returns : goal.returns
unfolding instruction_c
returns c = rw (c.word.ensures, c.wide.ensures)
