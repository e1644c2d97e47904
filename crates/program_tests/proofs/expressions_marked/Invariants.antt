use Rattle.program_parts.specs.Tests.{expression_marked}
use Rattle.words.proofs.Laws.{Upto}
use Rattle.program_tests.proofs.expressions_marked.Given as goal

abbrev pub invariant-loop-x : goal.invariant-loop-x
invariant-loop-x l = Upto (expression_marked l.p l.m.expression_wholes l.m.instruction_wholes l.m.code_names l.m.homes) l.t l.x l.ok
