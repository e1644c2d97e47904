use Rattle.splice.proofs.Laws.{Writing}
use Rattle.splice.proofs.copy.Given as goal

abbrev pub invariant-loop-i : goal.invariant-loop-i
invariant-loop-i l = Writing l.initial.m l.at l.s l.m l.i
