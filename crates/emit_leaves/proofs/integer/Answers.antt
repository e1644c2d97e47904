use Rattle.emit_leaves.proofs.Laws.{integer_one}
use Rattle.emit_leaves.proofs.integer.Goals as goal

pub returns : goal.returns
returns c = search integer_one
