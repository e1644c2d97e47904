use Rattle.paths.proofs.Laws.{Find}
use Rattle.paths.proofs.find_slot.Given as goal

abbrev pub invariant-loop-i : goal.invariant-loop-i
invariant-loop-i l = Find l.h l.f l.name l.n l.i
