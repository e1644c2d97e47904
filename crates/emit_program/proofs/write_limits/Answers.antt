use Rattle.emit_program.proofs.Laws.{limits_done}
use Rattle.emit_program.proofs.write_limits.Goals as goal

pub returns : goal.returns
returns c = search limits_done
