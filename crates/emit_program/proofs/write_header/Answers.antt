use Rattle.emit_program.proofs.Laws.{header_done}
use Rattle.emit_program.proofs.write_header.Goals as goal

pub returns : goal.returns
returns c = search header_done
