use Rattle.joining.proofs.Laws.{end_long, end_none}
use Rattle.joining.proofs.join_end.Goals as goal

pub returns-then-n-m-le64 : goal.returns-then-n-m-le64
returns-then-n-m-le64 c = search end_none

pub returns : goal.returns
returns c = search end_long
