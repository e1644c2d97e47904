use Rattle.program_marks.proofs.Laws.{MarkAlong}
use Rattle.program_marks.proofs.mark_slots.Given as goal

abbrev pub invariant-loop-j : goal.invariant-loop-j
invariant-loop-j l = MarkAlong l.p l.z l.w l.initial.m l.j l.y l.m
