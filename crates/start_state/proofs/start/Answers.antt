use Rattle.start_state.proofs.Laws.{starts_done}
use Rattle.start_state.proofs.start.Goals as goal

pub returns : goal.returns
returns c = search starts_done
