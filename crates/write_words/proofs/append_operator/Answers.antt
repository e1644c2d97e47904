use Rattle.std.proofs.Common.{arith}
use borrow.Author.Tests.{ne_eqb}
use Rattle.framed.specs.Common.{bytes}
use Rattle.framed.specs.Writer.{led, word_bytes, token_bytes, fixed_bytes, operator_bytes}
use Rattle.trees.specs.Trees.{operator_of}
use Rattle.write_words.specs.Words.{operator_text}
use Rattle.write_words.proofs.append_operator.Goals as goal

pub returns-in-7 : goal.returns-in-7
unfolding operator_text operator_of led word_bytes token_bytes fixed_bytes operator_bytes bytes
returns-in-7 c = rw c.in-7.is c.append.ensures

pub returns-in-8 : goal.returns-in-8
unfolding operator_text operator_of led word_bytes token_bytes fixed_bytes operator_bytes bytes
returns-in-8 c = rw c.in-8.is c.append-in-8.ensures

pub returns-in-9 : goal.returns-in-9
unfolding operator_text operator_of led word_bytes token_bytes fixed_bytes operator_bytes bytes
returns-in-9 c = rw c.in-9.is c.append-in-9.ensures

pub returns-in-10 : goal.returns-in-10
unfolding operator_text operator_of led word_bytes token_bytes fixed_bytes operator_bytes bytes
returns-in-10 c = rw c.in-10.is c.append-in-10.ensures

pub returns-in-11 : goal.returns-in-11
unfolding operator_text operator_of led word_bytes token_bytes fixed_bytes operator_bytes bytes
returns-in-11 c = rw c.in-11.is c.append-in-11.ensures

pub returns-in-12 : goal.returns-in-12
unfolding operator_text operator_of led word_bytes token_bytes fixed_bytes operator_bytes bytes
returns-in-12 c = rw c.in-12.is c.append-in-12.ensures

pub returns-in-13 : goal.returns-in-13
unfolding operator_text operator_of led word_bytes token_bytes fixed_bytes operator_bytes bytes
returns-in-13 c = rw c.in-13.is c.append-in-13.ensures

pub returns-in-14 : goal.returns-in-14
unfolding operator_text operator_of led word_bytes token_bytes fixed_bytes operator_bytes bytes
returns-in-14 c = rw c.in-14.is c.append-in-14.ensures

pub returns-in_default : goal.returns-in_default
unfolding operator_text operator_of led word_bytes token_bytes fixed_bytes operator_bytes bytes
returns-in_default c =
    rw (
      ne_eqb c.args.kind 7 (omega arith),
      ne_eqb c.args.kind 8 (omega arith),
      ne_eqb c.args.kind 9 (omega arith),
      ne_eqb c.args.kind 10 (omega arith),
      ne_eqb c.args.kind 11 (omega arith),
      ne_eqb c.args.kind 12 (omega arith),
      ne_eqb c.args.kind 13 (omega arith),
      ne_eqb c.args.kind 14 (omega arith),
    )
    c.append-in_default.ensures
