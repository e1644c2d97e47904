use Rattle.makers.proofs.Counts.{Tallied}
use Rattle.makers.proofs.count_marked.Given as goal

abbrev pub invariant-loop-f : goal.invariant-loop-f
invariant-loop-f l = Tallied l.h l.marks l.f l.counts
