use Rattle.paths.proofs.Laws.{path_at}
use Rattle.paths.proofs.path_name_after.Goals as goal

pub returns : goal.returns
returns c = search path_at
