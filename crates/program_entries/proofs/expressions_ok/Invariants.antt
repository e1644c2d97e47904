use Rattle.program_entries.specs.Tests.{expression_ok}
use Rattle.words.proofs.Laws.{Upto}
use Rattle.program_entries.proofs.expressions_ok.Given as goal

abbrev pub invariant-loop-x : goal.invariant-loop-x
invariant-loop-x l = Upto (expression_ok l.p) l.n l.x l.ok
