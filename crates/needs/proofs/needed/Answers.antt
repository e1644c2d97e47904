use Rattle.needs.proofs.Laws.{made_side}
use Rattle.needs.proofs.needed.Goals as goal

pub returns : goal.returns
returns c = search made_side
