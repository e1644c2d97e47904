use Rattle.emit_paths.proofs.Laws.{UpsLeads}
use Prim.Native.Nat.{◌-◌}
use lib.ListN.{length}
use Rattle.emit_paths.proofs.ups.Given as goal

abbrev pub invariant-loop-at : goal.invariant-loop-at
invariant-loop-at l = UpsLeads l.tokens.source.now l.initial.at l.initial.d l.at l.d

abbrev pub decreases-loop-at : goal.decreases-loop-at
decreases-loop-at l = length l.tokens.source.now - l.at
