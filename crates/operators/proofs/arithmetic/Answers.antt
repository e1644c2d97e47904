use Rattle.operators.proofs.Laws.{left_else, right_else, both_integers}
use borrow.Author.Rules.{rules}
use Rattle.operators.proofs.arithmetic.Goals as goal

pub returns-in-Int-Int : goal.returns-in-Int-Int
returns-in-Int-Int c = search (both_integers, rules)

pub returns-in_default : goal.returns-in_default
returns-in_default c = search right_else

pub returns-in_default-2 : goal.returns-in_default-2
returns-in_default-2 c = search left_else
