use Rattle.paths.proofs.Exits.{none_left, some_left}
use Rattle.checking.proofs.Laws.{operation_left, operation_right, operation_both}
use Rattle.checking.proofs.check_operation.Goals as goal

pub returns-in_err-v : goal.returns-in_err-v
returns-in_err-v c =
    let x = none_left _ _ c.from_residual.ensures.1 _ _ _ c.ok_or.ensures.value c.in_err-v.was in
    rw x.1 (search (operation_left, x.0))

pub returns-in_err-w : goal.returns-in_err-w
returns-in_err-w c =
    let v = some_left _ _ _ _ c.ok_or.ensures.value c.in_ok-v.was in
    let x = none_left _ _ c.from_residual-in_err-w.ensures.1 _ _ _ c.ok_or-2.ensures.value c.in_err-w.was in
    rw x.1 (search (operation_right, v, x.0))

pub returns : goal.returns
returns c =
    let v = some_left _ _ _ _ c.ok_or.ensures.value c.in_ok-v.was in
    let w = some_left _ _ _ _ c.ok_or-2.ensures.value c.in_ok-w.was in
    search (operation_both, v, w)
