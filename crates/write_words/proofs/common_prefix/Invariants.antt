use Rattle.write_words.proofs.Paths.{Comparing}
use Rattle.write_words.proofs.common_prefix.Given as goal

abbrev pub invariant-loop-i : goal.invariant-loop-i
invariant-loop-i l = Comparing l.p l.holding l.j l.n l.i
