use Rattle.program_marks.specs.Marks.{mark_first}
use Rattle.program_marks.proofs.Laws.{Done}
use Rattle.program_marks.proofs.mark_firsts.Given as goal

abbrev pub invariant-loop-k : goal.invariant-loop-k
invariant-loop-k l = Done (mark_first l.p) l.n l.k l.initial.m l.m
