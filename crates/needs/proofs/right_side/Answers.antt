use Rattle.needs.proofs.Laws.{side_self, side_program, side_show, side_jump, side_ifeq, side_bad}
use Rattle.needs.proofs.right_side.Goals as goal

pub returns-in-AssignSelf : goal.returns-in-AssignSelf
returns-in-AssignSelf c = search side_self

pub returns-in-AssignProgram : goal.returns-in-AssignProgram
returns-in-AssignProgram c = search side_program

pub returns-in-Show : goal.returns-in-Show
returns-in-Show c = search side_show

pub returns-in-Jump : goal.returns-in-Jump
returns-in-Jump c = search side_jump

pub returns-in-Ifeq : goal.returns-in-Ifeq
returns-in-Ifeq c = search side_ifeq

pub returns-in-Bad : goal.returns-in-Bad
returns-in-Bad c = search side_bad
