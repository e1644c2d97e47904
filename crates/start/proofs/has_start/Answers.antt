use Rattle.start.proofs.Trees.{has_none, has_last}
use Rattle.start.proofs.has_start.Goals as goal

pub returns-in_default : goal.returns-in_default
returns-in_default c = search has_none

pub returns : goal.returns
returns c = search has_last
