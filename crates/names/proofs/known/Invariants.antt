use Rattle.names.proofs.Laws.{Searching}
use Rattle.names.proofs.known.Given as goal

abbrev pub invariant-loop-k : goal.invariant-loop-k
invariant-loop-k l = Searching l.s l.begins l.ends l.n l.a l.p l.k

abbrev pub decreases-loop-k : goal.decreases-loop-k
decreases-loop-k l = l.k
