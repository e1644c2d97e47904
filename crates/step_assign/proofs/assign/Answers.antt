use Rattle.paths.proofs.Exits.{passed}
use Rattle.step_assign.proofs.Does.{assign_comparable, assign_put_ended, assign_made, assign_ended, assign_left}
use Rattle.step_assign.proofs.assign.Goals as goal

pub expression-requires : goal.expression-requires
expression-requires c = search assign_comparable

pub returns-in_err-v : goal.returns-in_err-v
returns-in_err-v c = rw (passed _ _ c.from_residual.ensures.1) (search (assign_ended, c.in_err-v.was))

pub returns-in_default : goal.returns-in_default
returns-in_default c = let is = rw c.in_default.is at c.in_ok-v.was in search (assign_left, is)

pub returns-in_err-put_from : goal.returns-in_err-put_from
returns-in_err-put_from c =
    let is = rw c.in-Some.is at c.in_ok-v.was in
    rw (passed _ _ c.from_residual-in_err-put_from.ensures.1) (search (assign_put_ended, is, c.in_err-put_from.was))

pub returns : goal.returns
returns c = let is = rw c.in-Some.is at c.in_ok-v.was in search (assign_made, is, c.in_ok-put_from.was)
