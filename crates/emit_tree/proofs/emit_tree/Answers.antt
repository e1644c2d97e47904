use Rattle.emit_tree.proofs.Whole.{tree_done}
use Rattle.emit_tree.proofs.emit_tree.Goals as goal

pub returns : goal.returns
returns c = search tree_done
