use Rattle.tables.proofs.Walks.{Along}
use Rattle.program_entries.specs.Tests.{other_name_at}
use Rattle.program_entries.proofs.other_names.Given as goal

abbrev pub invariant-loop-j : goal.invariant-loop-j
invariant-loop-j l = Along l.p l.z (other_name_at l.p l.n l.z) l.j l.y l.ok
