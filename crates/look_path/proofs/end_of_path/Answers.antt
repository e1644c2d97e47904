use Rattle.look_path.proofs.Laws.{path_found, path_undefined}
use Rattle.look_path.proofs.end_of_path.Goals as goal

pub returns-in-Some : goal.returns-in-Some
returns-in-Some c = search path_found

pub returns-in-None : goal.returns-in-None
returns-in-None c = search path_undefined
