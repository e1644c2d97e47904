use Rattle.tables.specs.Fields.{path_names}
use Rattle.tables.proofs.path_names.Goals as goal

pub returns : goal.returns
unfolding path_names
returns c = c.word.ensures
