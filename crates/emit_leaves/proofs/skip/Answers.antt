use Rattle.emit_leaves.proofs.Laws.{skip_one}
use Rattle.emit_leaves.proofs.skip.Goals as goal

pub returns : goal.returns
returns c = search skip_one
