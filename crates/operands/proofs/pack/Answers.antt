use Rattle.operands.proofs.Numbers.{packed_value}
use Rattle.operands.specs.Operands.{unpacked}
use borrow.Author.Rules.{rules}
use Rattle.operands.proofs.pack.Goals as goal

pub returns-in_default : goal.returns-in_default
unfolding unpacked
returns-in_default c = cc

pub returns : goal.returns
returns c = search (rules, packed_value)
