use Rattle.needs.proofs.Cap.{capped_is}
use Rattle.needs.proofs.capped.Goals as goal

pub returns : goal.returns
returns c = capped_is _ _ _ _ c.saturating_add.ensures c.min.ensures
