use Rattle.evaluation.proofs.Laws.{claim_done}
use Rattle.evaluation.proofs.claim.Goals as goal

pub returns : goal.returns
returns c = search claim_done
