use Rattle.program_marks.proofs.Laws.{parts_frame, parts_not, parts_operate, parts_else}
use Rattle.program_marks.proofs.mark_parts.Goals as goal

pub returns-in-Frame : goal.returns-in-Frame
returns-in-Frame c = search parts_frame

pub returns-in-Not : goal.returns-in-Not
returns-in-Not c = search parts_not

pub returns-in-Operate : goal.returns-in-Operate
returns-in-Operate c = search parts_operate

pub returns-in_default : goal.returns-in_default
returns-in_default c = search parts_else
