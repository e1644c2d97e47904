use Rattle.paths.proofs.Exits.{passed}
use Rattle.step_jump.proofs.Does.{can_jump, jump_does, jump_ends}
use Rattle.step.proofs.Does.{at_assignment, at_ifeq, self_left, program_left, show_left, bad_left}
use Rattle.step.proofs.direct.Goals as goal

pub assign-requires : goal.assign-requires
assign-requires c = search at_assignment

pub jump-requires : goal.jump-requires
jump-requires c = search can_jump

pub branch-p-requires : goal.branch-p-requires
branch-p-requires c = search at_ifeq

pub returns-in-AssignSelf : goal.returns-in-AssignSelf
returns-in-AssignSelf c = search self_left

pub returns-in-AssignProgram : goal.returns-in-AssignProgram
returns-in-AssignProgram c = search program_left

pub returns-in-Show : goal.returns-in-Show
returns-in-Show c = search show_left

pub returns-in_err-jump-in-Jump : goal.returns-in_err-jump-in-Jump
returns-in_err-jump-in-Jump c = rw (passed _ _ c.from_residual.ensures.1) (search (jump_ends, c.in_err-jump-in-Jump.was))

pub returns-in_ok-jump-in-Jump : goal.returns-in_ok-jump-in-Jump
returns-in_ok-jump-in-Jump c = search (jump_does, c.in_ok-jump-in-Jump.was)

pub returns-in-Bad : goal.returns-in-Bad
returns-in-Bad c = search bad_left
