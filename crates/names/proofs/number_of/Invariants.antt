use Rattle.names.proofs.Numbers.{Seeking}
use Rattle.names.proofs.number_of.Given as goal

abbrev pub invariant-loop-k : goal.invariant-loop-k
invariant-loop-k l = Seeking l.s l.begins l.ends l.n l.w l.k
