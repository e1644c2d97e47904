use native.Mathlib.Omega.{arith}
use borrow.Author.Rules.{rules}
use Rattle.decimal.proofs.Laws.{writing_start, writing_again, writing_first}
use Rattle.decimal.proofs.digits.Goals as goal

pub loop-m-init : goal.loop-m-init
loop-m-init c = search (writing_start, rules)

pub loop-m-preserved : goal.loop-m-preserved
loop-m-preserved c = let l = c.loop-m in writing_again c.args.n l.bytes l.start l.m l.invariant (omega arith)

pub returns : goal.returns
returns c = let l = c.loop-m in writing_first c.args.n l.bytes l.start l.m l.invariant (omega arith)
