use Rattle.start_state.proofs.Laws.{rooted_done}
use Rattle.start_state.proofs.root.Goals as goal

pub returns : goal.returns
returns c = search rooted_done
