use native.Mathlib.Omega.{arith}
use Rattle.tables.specs.Entries.{expression_of}
use Rattle.tables.proofs.Laws.{is_operate, is_bad}
use Rattle.tables.proofs.expression_of.Goals as goal

pub returns-in-0 : goal.returns-in-0
unfolding expression_of
returns-in-0 c = rw c.in-0.is

pub returns-in-1 : goal.returns-in-1
unfolding expression_of
returns-in-1 c = rw c.in-1.is

pub returns-in-2 : goal.returns-in-2
unfolding expression_of
returns-in-2 c = rw c.in-2.is

pub returns-in-3 : goal.returns-in-3
unfolding expression_of
returns-in-3 c = rw c.in-3.is

pub returns-in-4 : goal.returns-in-4
unfolding expression_of
returns-in-4 c = rw c.in-4.is

pub returns-in-5 : goal.returns-in-5
unfolding expression_of
returns-in-5 c = rw c.in-5.is

pub returns-in-6 : goal.returns-in-6
unfolding expression_of
returns-in-6 c = rw c.in-6.is

pub returns-in-7-to-15 : goal.returns-in-7-to-15
returns-in-7-to-15 c = is_operate _ _ _ (omega arith) (omega arith)

pub returns-in_default : goal.returns-in_default
returns-in_default c = is_bad _ _ _ (omega arith)
