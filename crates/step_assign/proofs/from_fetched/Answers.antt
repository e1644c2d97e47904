use Rattle.paths.proofs.Exits.{none_left, some_left}
use Rattle.step_assign.proofs.Laws.{fetched_none, fetched_some}
use Rattle.step_assign.proofs.from_fetched.Goals as goal

pub returns-in_err-v : goal.returns-in_err-v
returns-in_err-v c =
    let x = none_left _ _ c.from_residual.ensures.1 _ _ _ c.ok_or.ensures.value c.in_err-v.was in
    rw x.1 (search (fetched_none, x.0))

pub returns : goal.returns
returns c = search (fetched_some, some_left _ _ _ _ c.ok_or.ensures.value c.in_ok-v.was)
