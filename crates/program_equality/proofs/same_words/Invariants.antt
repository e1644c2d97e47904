use Rattle.texts.proofs.Laws.{Comparing}
use Rattle.program_equality.proofs.same_words.Given as goal

abbrev pub invariant-loop-i : goal.invariant-loop-i
invariant-loop-i l = Comparing l.a l.b l.agree l.i
