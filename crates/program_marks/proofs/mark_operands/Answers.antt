use Rattle.program_marks.specs.Marks.{mark_operands}
use Rattle.program_marks.proofs.Laws.{operands_one, operands_jump, operands_ifeq}
use Rattle.program_marks.proofs.mark_operands.Goals as goal

pub returns-in-AssignSelf : goal.returns-in-AssignSelf
returns-in-AssignSelf c = search operands_one

pub returns-in-Jump : goal.returns-in-Jump
returns-in-Jump c = search operands_jump

pub returns-in-Ifeq : goal.returns-in-Ifeq
returns-in-Ifeq c = search operands_ifeq

pub returns-in-Bad : goal.returns-in-Bad
unfolding mark_operands
returns-in-Bad c = cc
