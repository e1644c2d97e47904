use Rattle.paths.proofs.Exits.{none_left, some_left}
use Rattle.step_assign.proofs.Laws.{not_none, not_true, not_false}
use Rattle.step_assign.proofs.negation.Goals as goal

pub returns-in_err-v : goal.returns-in_err-v
returns-in_err-v c =
    let x = none_left _ _ c.from_residual.ensures.1 _ _ _ c.ok_or.ensures.value c.in_err-v.was in
    rw x.1 (search (not_none, x.0))

pub returns-then-truth : goal.returns-then-truth
returns-then-truth c = search (not_true, some_left _ _ _ _ c.ok_or.ensures.value c.in_ok-v.was)

pub returns : goal.returns
returns c = search (not_false, some_left _ _ _ _ c.ok_or.ensures.value c.in_ok-v.was)
