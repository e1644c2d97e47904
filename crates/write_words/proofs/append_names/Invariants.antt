use Rattle.write_words.proofs.Paths.{Naming}
use Rattle.write_words.proofs.append_names.Given as goal

abbrev pub invariant-loop-i : goal.invariant-loop-i
invariant-loop-i l = Naming l.p l.initial.m l.limit l.at l.j l.n l.m l.b l.i
