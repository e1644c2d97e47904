use Rattle.grammar.proofs.Paths.{seen_self, seen_up, seen_none}
use Rattle.grammar.proofs.path_from.Goals as goal

pub returns-then-t-eq1 : goal.returns-then-t-eq1
returns-then-t-eq1 c = search seen_self

pub returns-then-t-eq8 : goal.returns-then-t-eq8
returns-then-t-eq8 c = search seen_up

pub returns : goal.returns
returns c = search seen_none
