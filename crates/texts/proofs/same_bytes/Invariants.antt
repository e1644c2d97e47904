use Rattle.texts.proofs.Laws.{Comparing}
use Rattle.texts.proofs.same_bytes.Given as goal

abbrev pub invariant-loop-i : goal.invariant-loop-i
invariant-loop-i l = Comparing l.a l.b l.agree l.i
