use Rattle.program_marks.specs.Marks.{mark_next}
use Rattle.program_marks.proofs.Laws.{Done}
use Rattle.program_marks.proofs.mark_nexts.Given as goal

abbrev pub invariant-loop-i : goal.invariant-loop-i
invariant-loop-i l = Done (mark_next l.p) l.n l.i l.initial.m l.m
