use Rattle.paths.proofs.Laws.{Walk}
use Rattle.paths.proofs.fetch.Given as goal

abbrev pub invariant-loop-i : goal.invariant-loop-i
invariant-loop-i l = Walk l.h l.p l.initial.v l.j l.n l.v l.i
