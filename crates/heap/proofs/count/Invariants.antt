use Rattle.heap.proofs.Loops.{Tally}
use Rattle.heap.proofs.count.Given as goal

abbrev pub invariant-loop-i : goal.invariant-loop-i
invariant-loop-i g l = Tally (goal.F-post g l.test) l.i l.n
