use borrow.Author.Rules.{rules}
use Rattle.paths.proofs.Exits.{passed}
use Rattle.step_assign.proofs.Laws.{operation_makes, number_first, number_second, number_integer, number_ended, number_true, number_false}
use Rattle.step_assign.proofs.operation.Goals as goal

pub returns-then-kind-eq12 : goal.returns-then-kind-eq12
returns-then-kind-eq12 c = search operation_makes

pub returns-then-v-eq5 : goal.returns-then-v-eq5
returns-then-v-eq5 c = search number_first

pub returns-then-w-eq5 : goal.returns-then-w-eq5
returns-then-w-eq5 c = search number_second

pub returns-in_err-n : goal.returns-in_err-n
returns-in_err-n c = rw (passed _ _ c.from_residual.ensures.1) (search (number_ended, c.in_err-n.was))

pub returns-then-kind-lt12 : goal.returns-then-kind-lt12
returns-then-kind-lt12 c = search (number_integer, c.in_ok-n.was, rules)

pub returns-then-compare : goal.returns-then-compare
returns-then-compare c = search number_true

pub returns : goal.returns
returns c = search number_false
