use Rattle.program_names.specs.Tests.{names_differ}
use Rattle.words.proofs.Laws.{Upto}
use Rattle.program_names.proofs.new_name.Given as goal

abbrev pub invariant-loop-j : goal.invariant-loop-j
invariant-loop-j l = Upto (names_differ l.p l.k) l.k l.j l.ok
