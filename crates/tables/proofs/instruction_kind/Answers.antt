use Rattle.tables.specs.Fields.{instruction_kind}
use Rattle.tables.proofs.instruction_kind.Goals as goal

pub returns : goal.returns
unfolding instruction_kind
returns c = rw (c.word.ensures, c.wide.ensures)
