use Rattle.emit_paths.proofs.Laws.{DottedLeads}
use Prim.Native.Nat.{◌-◌}
use lib.ListN.{length}
use Rattle.emit_names.specs.Lent.{table_in}
use Rattle.emit_paths.proofs.dotted.Given as goal

abbrev pub invariant-loop-at : goal.invariant-loop-at
invariant-loop-at l = DottedLeads l.e.tokens.source.now (table_in l.e) l.from l.paths l.initial.p l.at l.j l.p

abbrev pub decreases-loop-at : goal.decreases-loop-at
decreases-loop-at l = length l.e.tokens.source.now - l.at
