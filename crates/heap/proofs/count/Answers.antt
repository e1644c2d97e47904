use Rattle.heap.proofs.Loops.{tally_start, tally_yes, tally_no}
use Rattle.heap.proofs.count.Goals as goal
use Rattle.heap.proofs.count.Goals.{then-test, else-test}

pub loop-i-init : goal.loop-i-init
loop-i-init g c = tally_start _

pub loop-i-preserved : goal.loop-i-preserved
loop-i-preserved g c = elim c.if-test.branch [ then-test w ↦ rw w.n-is (tally_yes _ _ _ c.loop-i.invariant c.loop-i-test.true _ c.test.ensures w.if-test.true) | else-test w ↦ rw w.n-is (tally_no _ _ _ c.loop-i.invariant c.loop-i-test.true _ c.test.ensures w.if-test.false) ]
