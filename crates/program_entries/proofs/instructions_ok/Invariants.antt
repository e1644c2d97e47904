use Rattle.program_entries.specs.Tests.{instruction_ok}
use Rattle.words.proofs.Laws.{Upto}
use Rattle.program_entries.proofs.instructions_ok.Given as goal

abbrev pub invariant-loop-i : goal.invariant-loop-i
invariant-loop-i l = Upto (instruction_ok l.p) l.n l.i l.ok
