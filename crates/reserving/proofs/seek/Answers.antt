use Rattle.reserving.proofs.Laws.{seek_both}
use Rattle.reserving.proofs.seek.Goals as goal

pub returns : goal.returns
returns c = search seek_both
