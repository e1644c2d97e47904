use native.Mathlib.Omega.{arith}
use Rattle.tables.specs.Entries.{instruction_of}
use Rattle.tables.proofs.Laws.{is_bad_instruction}
use Rattle.tables.proofs.instruction_of.Goals as goal

pub returns-in-0 : goal.returns-in-0
unfolding instruction_of
returns-in-0 c = rw c.in-0.is

pub returns-in-1 : goal.returns-in-1
unfolding instruction_of
returns-in-1 c = rw c.in-1.is

pub returns-in-2 : goal.returns-in-2
unfolding instruction_of
returns-in-2 c = rw c.in-2.is

pub returns-in-3 : goal.returns-in-3
unfolding instruction_of
returns-in-3 c = rw c.in-3.is

pub returns-in-4 : goal.returns-in-4
unfolding instruction_of
returns-in-4 c = rw c.in-4.is

pub returns-in_default : goal.returns-in_default
returns-in_default c = is_bad_instruction _ _ _ _ (omega arith)
