use Rattle.program_entries.proofs.Laws.{assign_form, show_form, jump_form, ifeq_form, bad_form}
use Rattle.program_entries.proofs.instruction_entry_ok.Goals as goal

pub returns-in-AssignSelf : goal.returns-in-AssignSelf
returns-in-AssignSelf c = search assign_form

pub returns-in-Show : goal.returns-in-Show
returns-in-Show c = search show_form

pub returns-in-Jump : goal.returns-in-Jump
returns-in-Jump c = search jump_form

pub returns-in-Ifeq : goal.returns-in-Ifeq
returns-in-Ifeq c = search ifeq_form

pub returns-in-Bad : goal.returns-in-Bad
returns-in-Bad c = search bad_form
