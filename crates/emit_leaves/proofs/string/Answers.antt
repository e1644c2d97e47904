use Rattle.emit_leaves.proofs.Laws.{string_one}
use Rattle.emit_leaves.proofs.string.Goals as goal

pub returns : goal.returns
returns c = search string_one
