use Rattle.script.proofs.Laws.{space_fits, space_unfit}
use Rattle.script.proofs.space_for.Goals as goal

pub returns-then-n-le4096 : goal.returns-then-n-le4096
returns-then-n-le4096 c = search space_fits

pub returns : goal.returns
returns c = search space_unfit
