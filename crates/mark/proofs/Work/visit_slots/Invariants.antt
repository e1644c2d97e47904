use Rattle.mark.proofs.MarkLaws.{Scan}
use Rattle.mark.proofs.Work.visit_slots.Given as goal

abbrev pub invariant-loop-i : goal.invariant-loop-i
invariant-loop-i l = Scan l.h l.g l.initial.self l.n l.self l.i
