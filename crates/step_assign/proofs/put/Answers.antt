use Rattle.paths.proofs.Exits.{none_left, some_left}
use Rattle.step_assign.proofs.Laws.{put_nowhere, put_past, put_there}
use Rattle.step_assign.proofs.put.Goals as goal

pub returns-in_err-at : goal.returns-in_err-at
returns-in_err-at c =
    let x = none_left _ _ c.from_residual.ensures.1 _ _ _ c.ok_or.ensures.value c.in_err-at.was in
    rw x.1 (search (put_nowhere, x.0))

pub returns-then-at-ge256 : goal.returns-then-at-ge256
returns-then-at-ge256 c = search (put_past, some_left _ _ _ _ c.ok_or.ensures.value c.in_ok-at.was)

pub returns : goal.returns
returns c = search (put_there, some_left _ _ _ _ c.ok_or.ensures.value c.in_ok-at.was)
