use Rattle.table_updates.specs.Encode.{expression_kind_of, expression_a_of, expression_b_of}
use Rattle.table_updates.proofs.expression_words.Goals as goal

pub returns-in-Integer : goal.returns-in-Integer
unfolding expression_kind_of expression_a_of expression_b_of
returns-in-Integer c = rw c.in-Integer.is

pub returns-in-Literal : goal.returns-in-Literal
unfolding expression_kind_of expression_a_of expression_b_of
returns-in-Literal c = rw c.in-Literal.is

pub returns-in-FromSelf : goal.returns-in-FromSelf
unfolding expression_kind_of expression_a_of expression_b_of
returns-in-FromSelf c = rw c.in-FromSelf.is

pub returns-in-FromProgram : goal.returns-in-FromProgram
unfolding expression_kind_of expression_a_of expression_b_of
returns-in-FromProgram c = rw c.in-FromProgram.is

pub returns-in-Code : goal.returns-in-Code
unfolding expression_kind_of expression_a_of expression_b_of
returns-in-Code c = rw c.in-Code.is

pub returns-in-Frame : goal.returns-in-Frame
unfolding expression_kind_of expression_a_of expression_b_of
returns-in-Frame c = rw c.in-Frame.is

pub returns-in-Not : goal.returns-in-Not
unfolding expression_kind_of expression_a_of expression_b_of
returns-in-Not c = rw c.in-Not.is

pub returns-in-Operate : goal.returns-in-Operate
unfolding expression_kind_of expression_a_of expression_b_of
returns-in-Operate c = rw c.in-Operate.is

pub returns-in-Bad : goal.returns-in-Bad
unfolding expression_kind_of expression_a_of expression_b_of
returns-in-Bad c = rw c.in-Bad.is
