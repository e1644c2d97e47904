use Rattle.needs.proofs.Laws.{sign_other, sign_join, sign_none}
use Rattle.needs.proofs.join_sign.Goals as goal

pub returns-in_default : goal.returns-in_default
returns-in_default c = search sign_other

pub returns-then-o-eq12 : goal.returns-then-o-eq12
returns-then-o-eq12 c = search sign_join

pub returns : goal.returns
returns c = search sign_none
