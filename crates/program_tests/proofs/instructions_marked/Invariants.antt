use Rattle.program_parts.specs.Tests.{instruction_marked}
use Rattle.words.proofs.Laws.{Upto}
use Rattle.program_tests.proofs.instructions_marked.Given as goal

abbrev pub invariant-loop-i : goal.invariant-loop-i
invariant-loop-i l = Upto (instruction_marked l.p l.m.expression_wholes l.m.instruction_wholes l.m.instruction_codes) l.t l.i l.ok
