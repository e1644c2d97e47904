use Rattle.emit_leaves.proofs.Laws.{after_none, after_low, after_high}
use Rattle.emit_leaves.proofs.operator_after.Goals as goal

pub returns-in_default : goal.returns-in_default
returns-in_default c = search after_none

pub returns-then-k-ge16 : goal.returns-then-k-ge16
returns-then-k-ge16 c = search after_high

pub returns-else-k-ge16 : goal.returns-else-k-ge16
returns-else-k-ge16 c = search after_low
