use Rattle.emit_program.proofs.Laws.{start_done}
use Rattle.emit_program.proofs.write_start.Goals as goal

pub returns : goal.returns
returns c = search start_done
