use Rattle.write_words.proofs.Paths.{Climbing}
use Rattle.write_words.proofs.append_climbs.Given as goal

abbrev pub invariant-loop-i : goal.invariant-loop-i
invariant-loop-i l = Climbing l.initial.m l.limit l.at l.k l.m l.b l.i
