use Rattle.program_marks.proofs.Laws.{named_else, named_code}
use Rattle.program_marks.proofs.mark_named.Goals as goal

pub returns-in-Code : goal.returns-in-Code
returns-in-Code c = search named_code

pub returns-in_default : goal.returns-in_default
returns-in_default c = search named_else
