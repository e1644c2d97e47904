use Rattle.program_marks.specs.Marks.{mark_name}
use Rattle.program_marks.proofs.Laws.{Done}
use Rattle.program_marks.proofs.mark_names.Given as goal

abbrev pub invariant-loop-x : goal.invariant-loop-x
invariant-loop-x l = Done (mark_name l.p) l.n l.x l.initial.m l.m
