use Rattle.emit_program.proofs.Laws.{counts_done}
use Rattle.emit_program.proofs.write_counts.Goals as goal

pub returns : goal.returns
returns c = search counts_done
