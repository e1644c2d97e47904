use Rattle.tables.proofs.Walks.{Along}
use Rattle.program_parts.specs.Tests.{slot_marked_at}
use Rattle.program_tests.proofs.slots_marked.Given as goal

abbrev pub invariant-loop-j : goal.invariant-loop-j
invariant-loop-j l = Along l.p l.z (slot_marked_at l.p l.m.expression_wholes l.m.instruction_wholes l.w l.z) l.j l.y l.ok
