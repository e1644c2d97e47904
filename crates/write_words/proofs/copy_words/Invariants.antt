use Rattle.splice.proofs.Laws.{Writing}
use Rattle.write_words.proofs.copy_words.Given as goal

abbrev pub invariant-loop-j : goal.invariant-loop-j
invariant-loop-j l = Writing l.initial.m l.at l.w l.m l.j
