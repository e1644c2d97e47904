use Rattle.paths.proofs.Exits.{none_left, some_left}
use Rattle.step_jump.proofs.Laws.{jump_nothing, jump_other, jump_no_self, jump_made}
use Rattle.step_jump.proofs.jump.Goals as goal

pub returns-in_err-k : goal.returns-in_err-k
returns-in_err-k c =
    let x = none_left _ _ c.from_residual.ensures.1 _ _ _ c.ok_or.ensures.value c.in_err-k.was in
    rw x.1 (search (jump_nothing, x.0))

pub returns-in_default : goal.returns-in_default
returns-in_default c = search (jump_other, some_left _ _ _ _ c.ok_or.ensures.value c.in_ok-k.was)

pub returns-in_err-w : goal.returns-in_err-w
returns-in_err-w c =
    let is = rw c.in-Code.is at (some_left _ _ _ _ c.ok_or.ensures.value c.in_ok-k.was) in
    let x = none_left _ _ c.from_residual-in_err-w.ensures.1 _ _ _ c.ok_or-2.ensures.value c.in_err-w.was in
    rw x.1 (search (jump_no_self, is, x.0))

pub returns : goal.returns
returns c =
    let is = rw c.in-Code.is at (some_left _ _ _ _ c.ok_or.ensures.value c.in_ok-k.was) in
    search (jump_made, is, some_left _ _ _ _ c.ok_or-2.ensures.value c.in_ok-w.was)
