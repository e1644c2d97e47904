use Rattle.grammar.proofs.Combine.{kind_none, kind_some}
use Rattle.grammar.proofs.kind_at.Goals as goal

pub returns-in_default : goal.returns-in_default
returns-in_default c = search kind_none

pub returns : goal.returns
returns c = search kind_some
