use Rattle.emit_leaves.proofs.Laws.{line_end}
use Rattle.emit_leaves.proofs.close_line.Goals as goal

pub returns : goal.returns
returns c = search line_end
