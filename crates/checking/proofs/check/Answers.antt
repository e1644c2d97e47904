use Rattle.checking.proofs.Laws.{kind_shows, kind_expression, kind_self, kind_program}
use Rattle.checking.proofs.check.Goals as goal

pub returns-then-kind-ge2 : goal.returns-then-kind-ge2
returns-then-kind-ge2 c = search kind_shows

pub check_assign-requires : goal.check_assign-requires
check_assign-requires c = search kind_expression

pub returns-then-kind-eq0 : goal.returns-then-kind-eq0
returns-then-kind-eq0 c = search kind_self

pub check_assign-requires-2 : goal.check_assign-requires-2
check_assign-requires-2 c = search kind_expression

pub returns : goal.returns
returns c = search kind_program
