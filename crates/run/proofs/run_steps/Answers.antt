use borrow.Author.Rules.{rules}
use Rattle.run.proofs.Laws.{run_starts, starts_knowing, returns_marked, returns_done, can_attempt, returns_stopped, used_fits, goes_on, returns_spent}
use Rattle.run.proofs.run_steps.Goals as goal

pub loop-steps-init : goal.loop-steps-init
loop-steps-init c = (search run_starts, search starts_knowing)

pub returns-then-e-ne0 : goal.returns-then-e-ne0
returns-then-e-ne0 c = search returns_marked

pub returns-then-z-eq0 : goal.returns-then-z-eq0
returns-then-z-eq0 c = search returns_done

pub attempt-a-requires : goal.attempt-a-requires
attempt-a-requires c = record { can_attempt = search can_attempt; knows_2 = search rules }

pub returns-in_default : goal.returns-in_default
returns-in_default c = search (returns_stopped, c.loop-steps.invariant.0, c.loop-steps-test.true, c.end_mark-e.ensures, c.if-e-ne0.false, c.position-z.ensures, c.if-z-eq0.false, c.attempt-a.ensures.exact, c.in_default.not-Made, c.stop_after.ensures)

pub overflow_add-used : goal.overflow_add-used
overflow_add-used c = search (used_fits, c.loop-steps.invariant.0, c.loop-steps-test.true, c.end_mark-e.ensures, c.if-e-ne0.false, c.position-z.ensures, c.if-z-eq0.false, c.attempt-a.ensures.exact, c.in-Made.is, c.well_formed)

pub overflow_add-steps : goal.overflow_add-steps
overflow_add-steps c = search (rules, c.loop-steps-test.true, c.ranges.fuel)

pub loop-steps-preserved : goal.loop-steps-preserved
loop-steps-preserved c = (search (goes_on, c.loop-steps.invariant.0, c.loop-steps-test.true, c.end_mark-e.ensures, c.if-e-ne0.false, c.position-z.ensures, c.if-z-eq0.false, c.attempt-a.ensures.exact, c.in-Made.is), c.attempt-a.ensures.knows)

pub returns : goal.returns
returns c = search returns_spent
