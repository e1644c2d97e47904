use Rattle.names.proofs.Laws.{Hashing}
use Rattle.names.proofs.hash.Given as goal

abbrev pub invariant-loop-i : goal.invariant-loop-i
invariant-loop-i l = Hashing l.w l.h l.i
