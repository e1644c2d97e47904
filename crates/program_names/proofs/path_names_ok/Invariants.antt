use Rattle.program_names.specs.Tests.{path_name_ok}
use Rattle.words.proofs.Laws.{Upto}
use Rattle.program_names.proofs.path_names_ok.Given as goal

abbrev pub invariant-loop-j : goal.invariant-loop-j
invariant-loop-j l = Upto (path_name_ok l.p) l.n l.j l.ok
