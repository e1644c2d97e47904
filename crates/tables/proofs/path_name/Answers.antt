use Rattle.tables.specs.Fields.{path_name}
use Rattle.tables.proofs.path_name.Goals as goal

pub returns : goal.returns
unfolding path_name
returns c = rw (c.word.ensures, c.wide.ensures)
