use Rattle.program_tests.proofs.Laws.{marked_code, marked_frame, marked_not, marked_operate, marked_else}
use Rattle.program_tests.proofs.parts_marked.Goals as goal

pub returns-in-Code : goal.returns-in-Code
returns-in-Code c = search marked_code

pub returns-in-Frame : goal.returns-in-Frame
returns-in-Frame c = search marked_frame

pub returns-in-Not : goal.returns-in-Not
returns-in-Not c = search marked_not

pub returns-in-Operate : goal.returns-in-Operate
returns-in-Operate c = search marked_operate

pub returns-in_default : goal.returns-in_default
returns-in_default c = search marked_else
