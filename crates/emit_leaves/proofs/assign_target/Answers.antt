use Rattle.emit_leaves.proofs.Laws.{target_one}
use Rattle.emit_leaves.proofs.assign_target.Goals as goal

pub returns : goal.returns
returns c = search target_one
