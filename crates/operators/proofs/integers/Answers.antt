use Rattle.operators.proofs.Laws.{is_plus, is_minus, is_times, is_over, is_less}
use borrow.Author.Rules.{rules}
use Rattle.operators.proofs.integers.Goals as goal

pub returns-in-7 : goal.returns-in-7
returns-in-7 c = search (is_plus, rules)

pub returns-in-8 : goal.returns-in-8
returns-in-8 c = search (is_minus, rules)

pub returns-in-9 : goal.returns-in-9
returns-in-9 c = search (is_times, rules)

pub returns-in-10 : goal.returns-in-10
returns-in-10 c = search (is_over, rules)

pub returns-in_default : goal.returns-in_default
returns-in_default c = search (is_less, rules)
