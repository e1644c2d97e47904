use Rattle.tables.proofs.Walks.{Along}
use Rattle.program_entries.specs.Tests.{slot_at_ok}
use Rattle.program_entries.proofs.slots_ok.Given as goal

abbrev pub invariant-loop-j : goal.invariant-loop-j
invariant-loop-j l = Along l.p l.z (slot_at_ok l.p l.z) l.j l.y l.ok
