use Rattle.program_parts.specs.Tests.{code_marked}
use Rattle.words.proofs.Laws.{Upto}
use Rattle.program_tests.proofs.codes_marked.Given as goal

abbrev pub invariant-loop-k : goal.invariant-loop-k
invariant-loop-k l = Upto (code_marked l.p l.m.instruction_codes l.m.code_names) l.t l.k l.ok
