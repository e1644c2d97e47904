use Rattle.look_path.proofs.Laws.{gone_undefined, gone_on}
use Rattle.look_path.proofs.go_on.Goals as goal

pub returns-in_default : goal.returns-in_default
returns-in_default c = search gone_undefined

pub returns : goal.returns
returns c = search gone_on
