use Rattle.emit_paths.proofs.Laws.{path_self, path_up}
use Rattle.emit_paths.proofs.emit_path.Goals as goal

pub returns-then-t-eq1 : goal.returns-then-t-eq1
returns-then-t-eq1 c = search path_self

pub returns : goal.returns
returns c = search path_up
