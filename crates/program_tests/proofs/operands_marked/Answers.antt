use Rattle.program_parts.specs.Tests.{operands_marked}
use Rattle.program_tests.proofs.Laws.{marked_one, marked_jump, marked_ifeq}
use Rattle.program_tests.proofs.operands_marked.Goals as goal

pub returns-in-AssignSelf : goal.returns-in-AssignSelf
returns-in-AssignSelf c = search marked_one

pub returns-in-Jump : goal.returns-in-Jump
returns-in-Jump c = search marked_jump

pub returns-in-Ifeq : goal.returns-in-Ifeq
returns-in-Ifeq c = search marked_ifeq

pub returns-in-Bad : goal.returns-in-Bad
unfolding operands_marked
returns-in-Bad c = cc
