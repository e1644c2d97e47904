use Rattle.program_marks.specs.Marks.{mark_expression}
use Rattle.program_marks.proofs.Laws.{Done}
use Rattle.program_marks.proofs.mark_expressions.Given as goal

abbrev pub invariant-loop-x : goal.invariant-loop-x
invariant-loop-x l = Done (mark_expression l.p) l.n l.x l.initial.m l.m
