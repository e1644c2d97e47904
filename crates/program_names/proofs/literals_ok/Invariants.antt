use Rattle.program_names.specs.Tests.{literal_ok}
use Rattle.words.proofs.Laws.{Upto}
use Rattle.program_names.proofs.literals_ok.Given as goal

abbrev pub invariant-loop-k : goal.invariant-loop-k
invariant-loop-k l = Upto (literal_ok l.p l.l) l.n l.k l.ok
