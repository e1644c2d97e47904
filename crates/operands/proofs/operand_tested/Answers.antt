use Rattle.operands.proofs.Laws.{operand_integer, operand_literal, fetched_self, fetched_program, operand_code, operand_frame, operand_not, operand_operate, operand_bad}
use Rattle.operands.proofs.operand_tested.Goals as goal

pub returns-in-Integer : goal.returns-in-Integer
returns-in-Integer c = search operand_integer

pub returns-in-Literal : goal.returns-in-Literal
returns-in-Literal c = search operand_literal

pub returns-in-FromSelf : goal.returns-in-FromSelf
returns-in-FromSelf c = search fetched_self

pub returns-in-FromProgram : goal.returns-in-FromProgram
returns-in-FromProgram c = search fetched_program

pub returns-in-Code : goal.returns-in-Code
returns-in-Code c = search operand_code

pub returns-in-Frame : goal.returns-in-Frame
returns-in-Frame c = search operand_frame

pub returns-in-Not : goal.returns-in-Not
returns-in-Not c = search operand_not

pub returns-in-Operate : goal.returns-in-Operate
returns-in-Operate c = search operand_operate

pub returns-in-Bad : goal.returns-in-Bad
returns-in-Bad c = search operand_bad
