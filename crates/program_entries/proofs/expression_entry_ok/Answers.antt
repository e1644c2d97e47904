use Rattle.program_entries.proofs.Laws.{entry_integer, entry_literal, entry_path, entry_code, entry_frame, entry_not, entry_operate, entry_bad}
use Rattle.program_entries.proofs.expression_entry_ok.Goals as goal

pub returns-in-Integer : goal.returns-in-Integer
returns-in-Integer c = search entry_integer

pub returns-in-Literal : goal.returns-in-Literal
returns-in-Literal c = search entry_literal

pub returns-in-FromSelf : goal.returns-in-FromSelf
returns-in-FromSelf c = search entry_path

pub returns-in-Code : goal.returns-in-Code
returns-in-Code c = search entry_code

pub returns-in-Frame : goal.returns-in-Frame
returns-in-Frame c = search entry_frame

pub returns-in-Not : goal.returns-in-Not
returns-in-Not c = search entry_not

pub returns-in-Operate : goal.returns-in-Operate
returns-in-Operate c = search entry_operate

pub returns-in-Bad : goal.returns-in-Bad
returns-in-Bad c = search entry_bad
