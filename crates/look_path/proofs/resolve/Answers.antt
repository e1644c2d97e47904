use Rattle.look_path.proofs.Laws.{resolve_none, resolve_self, resolve_program, resolve_other}
use Rattle.look_path.proofs.resolve.Goals as goal

pub returns-in_default : goal.returns-in_default
returns-in_default c = search resolve_none

pub returns-then-k-eq1 : goal.returns-then-k-eq1
returns-then-k-eq1 c = search resolve_self

pub returns-then-k-eq8 : goal.returns-then-k-eq8
returns-then-k-eq8 c = search resolve_program

pub returns : goal.returns
returns c = search resolve_other
