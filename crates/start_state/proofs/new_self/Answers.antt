use Rattle.start_state.proofs.Laws.{self_done}
use Rattle.allocation.proofs.Laws.{none_below}
use Rattle.start_state.proofs.new_self.Goals as goal

pub claim-g-requires : goal.claim-g-requires
claim-g-requires c = search none_below

pub returns : goal.returns
returns c = search self_done
