use Rattle.operands.proofs.Numbers.{Along}
use Rattle.operands.proofs.walk.Given as goal

abbrev pub invariant-loop-i : goal.invariant-loop-i
invariant-loop-i l = Along l.p l.h l.root l.j l.n l.tag l.f l.i
