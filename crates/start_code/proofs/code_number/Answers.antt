use Rattle.start_code.proofs.Laws.{number_none, number_here, number_other}
use Rattle.start_code.proofs.code_number.Goals as goal

pub returns-then-z-eq0 : goal.returns-then-z-eq0
returns-then-z-eq0 c = search number_none

pub returns-in_default : goal.returns-in_default
returns-in_default c = search number_other

pub returns : goal.returns
returns c = search number_here
