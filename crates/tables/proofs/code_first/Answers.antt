use Rattle.tables.specs.Fields.{code_first}
use Rattle.tables.proofs.code_first.Goals as goal

pub returns : goal.returns
unfolding code_first
returns c = rw (c.word.ensures, c.wide.ensures)
