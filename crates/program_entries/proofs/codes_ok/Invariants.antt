use Rattle.program_entries.specs.Tests.{code_ok}
use Rattle.words.proofs.Laws.{Upto}
use Rattle.program_entries.proofs.codes_ok.Given as goal

abbrev pub invariant-loop-k : goal.invariant-loop-k
invariant-loop-k l = Upto (code_ok l.p) l.n l.k l.ok
