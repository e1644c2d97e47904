use Rattle.table_updates.specs.Encode.{instruction_kind_of, instruction_a_of, instruction_b_of, instruction_c_of}
use Rattle.table_updates.proofs.instruction_words.Goals as goal

pub returns-in-AssignSelf : goal.returns-in-AssignSelf
unfolding instruction_kind_of instruction_a_of instruction_b_of instruction_c_of
returns-in-AssignSelf c = rw c.in-AssignSelf.is

pub returns-in-AssignProgram : goal.returns-in-AssignProgram
unfolding instruction_kind_of instruction_a_of instruction_b_of instruction_c_of
returns-in-AssignProgram c = rw c.in-AssignProgram.is

pub returns-in-Show : goal.returns-in-Show
unfolding instruction_kind_of instruction_a_of instruction_b_of instruction_c_of
returns-in-Show c = rw c.in-Show.is

pub returns-in-Jump : goal.returns-in-Jump
unfolding instruction_kind_of instruction_a_of instruction_b_of instruction_c_of
returns-in-Jump c = rw c.in-Jump.is

pub returns-in-Ifeq : goal.returns-in-Ifeq
unfolding instruction_kind_of instruction_a_of instruction_b_of instruction_c_of
returns-in-Ifeq c = rw c.in-Ifeq.is

pub returns-in-Bad : goal.returns-in-Bad
unfolding instruction_kind_of instruction_a_of instruction_b_of instruction_c_of
returns-in-Bad c = rw c.in-Bad.is
