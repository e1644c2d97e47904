use Rattle.emit_program.proofs.Laws.{emit_done}
use Rattle.emit_program.proofs.emit.Goals as goal

pub returns : goal.returns
returns c = search emit_done
