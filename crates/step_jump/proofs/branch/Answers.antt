use Rattle.paths.proofs.Exits.{passed, none_left, some_left}
use Rattle.step_jump.proofs.Does.{branch_undefined, branch_on, branch_can, branch_jumps, branch_ends}
use Rattle.step_jump.proofs.branch.Goals as goal

pub returns-in_err-test : goal.returns-in_err-test
returns-in_err-test c =
    let x = none_left _ _ c.from_residual.ensures.1 _ _ _ c.ok_or.ensures.value c.in_err-test.was in
    rw x.1 (search (branch_undefined, x.0))

pub returns-then-truth : goal.returns-then-truth
returns-then-truth c = search (branch_on, some_left _ _ _ _ c.ok_or.ensures.value c.in_ok-test.was)

pub jump-requires : goal.jump-requires
jump-requires c = search (branch_can, some_left _ _ _ _ c.ok_or.ensures.value c.in_ok-test.was)

pub returns-in_err-jump : goal.returns-in_err-jump
returns-in_err-jump c =
    rw (passed _ _ c.from_residual-in_err-jump.ensures.1)
    (search (branch_ends, some_left _ _ _ _ c.ok_or.ensures.value c.in_ok-test.was, c.in_err-jump.was))

pub returns : goal.returns
returns c = search (branch_jumps, some_left _ _ _ _ c.ok_or.ensures.value c.in_ok-test.was, c.in_ok-jump.was)
