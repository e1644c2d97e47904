use Rattle.emit_leaves.proofs.Laws.{operator_one}
use Rattle.emit_leaves.proofs.operator.Goals as goal

pub returns : goal.returns
returns c = search operator_one
