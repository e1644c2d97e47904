use Rattle.program_marks.specs.Marks.{mark_home}
use Rattle.program_marks.proofs.Laws.{Done}
use Rattle.program_marks.proofs.mark_homes.Given as goal

abbrev pub invariant-loop-x : goal.invariant-loop-x
invariant-loop-x l = Done (mark_home l.o l.q l.c) l.n l.x l.initial.h l.h
