use Rattle.start_code.proofs.Laws.{start_done}
use Rattle.start_code.proofs.start_code.Goals as goal

pub returns : goal.returns
returns c = search start_done
