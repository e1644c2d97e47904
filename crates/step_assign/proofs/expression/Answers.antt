use Rattle.step_assign.proofs.Laws.{given_integer, given_literal, given_self, given_program, given_code, given_frame, given_not, given_operation, given_bad}
use Rattle.step_assign.proofs.expression.Goals as goal

pub returns-in-Integer : goal.returns-in-Integer
returns-in-Integer c = search given_integer

pub returns-in-Literal : goal.returns-in-Literal
returns-in-Literal c = search given_literal

pub returns-in-FromSelf : goal.returns-in-FromSelf
returns-in-FromSelf c = search given_self

pub returns-in-FromProgram : goal.returns-in-FromProgram
returns-in-FromProgram c = search given_program

pub returns-in-Code : goal.returns-in-Code
returns-in-Code c = search given_code

pub returns-in-Frame : goal.returns-in-Frame
returns-in-Frame c = search given_frame

pub returns-in-Not : goal.returns-in-Not
returns-in-Not c = search given_not

pub returns-in-Operate : goal.returns-in-Operate
returns-in-Operate c = search given_operation

pub returns-in-Bad : goal.returns-in-Bad
returns-in-Bad c = search given_bad
