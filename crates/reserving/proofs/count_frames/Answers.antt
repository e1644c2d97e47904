use mathlib.Core.Path.{refl}
use native.Mathlib.Omega.{arith}
use borrow.Author.Rules.{rules}
use Rattle.heap.specs.Words.{frame_used}
use Rattle.reserving.proofs.Tally.{tally_start, tally_yes, tally_no}
use Rattle.reserving.proofs.Laws.{count_none, count_stop, count_all}
use Rattle.reserving.proofs.count_frames.Goals as goal
use Rattle.reserving.proofs.count_frames.Goals.{else-frame_used, then-frame_used}

pub returns-then-limit-f : goal.returns-then-limit-f
returns-then-limit-f c = search count_none

pub loop-g-init : goal.loop-g-init
loop-g-init c = search tally_start

pub overflow_add-n : goal.overflow_add-n
overflow_add-n c = omega (arith, c.loop-g.invariant.small)

pub returns-then-most-n : goal.returns-then-most-n
returns-then-most-n c = elim c.if-frame_used.branch [ then-frame_used w ↦ count_stop _ _ _ _ _ (tally_yes _ _ _ c.loop-g.invariant c.loop-g-test.true _ c.frame_used.ensures _ (search rules) (search rules)) c.if-limit-f.false _ refl c.if-most-n.true | else-frame_used w ↦ count_stop _ _ _ _ _ (tally_no _ _ _ c.loop-g.invariant c.loop-g-test.true _ c.frame_used.ensures _ (search rules) (search rules)) c.if-limit-f.false _ refl c.if-most-n.true ]

pub loop-g-preserved : goal.loop-g-preserved
loop-g-preserved c = elim c.if-frame_used.branch [ then-frame_used w ↦ search tally_yes | else-frame_used w ↦ search tally_no ]

pub returns : goal.returns
returns c = search count_all
