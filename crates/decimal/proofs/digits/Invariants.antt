use Rattle.decimal.proofs.Laws.{Writing}
use Rattle.decimal.proofs.digits.Given as goal

abbrev pub invariant-loop-m : goal.invariant-loop-m
invariant-loop-m l = Writing l.n l.bytes l.start l.m

abbrev pub decreases-loop-m : goal.decreases-loop-m
decreases-loop-m l = l.m
