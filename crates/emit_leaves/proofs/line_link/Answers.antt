use Rattle.emit_leaves.proofs.Laws.{line_none, line_next}
use Rattle.emit_leaves.proofs.line_link.Goals as goal

pub returns-then-k-eq15 : goal.returns-then-k-eq15
returns-then-k-eq15 c = search line_none

pub returns : goal.returns
returns c = search line_next
