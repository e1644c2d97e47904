use Rattle.emit_leaves.proofs.Laws.{block_one}
use Rattle.emit_leaves.proofs.open_block.Goals as goal

pub returns : goal.returns
returns c = search block_one
