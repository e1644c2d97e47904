use Rattle.program_marks.proofs.Laws.{home_expression, home_none, home_instruction}
use Rattle.program_marks.proofs.home_of.Goals as goal

pub returns-then-v-ne0 : goal.returns-then-v-ne0
returns-then-v-ne0 c = search home_expression

pub returns-then-w-eq0 : goal.returns-then-w-eq0
returns-then-w-eq0 c = search home_none

pub returns : goal.returns
returns c = search home_instruction
