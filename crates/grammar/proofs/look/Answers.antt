use Rattle.grammar.proofs.Combine.{see_none, see_some}
use Rattle.grammar.proofs.look.Goals as goal

pub returns-in_default : goal.returns-in_default
returns-in_default c = search see_none

pub returns : goal.returns
returns c = search see_some
