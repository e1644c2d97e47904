use Prim.Native.Nat.{◌-◌}
use lib.ListN.{length}
use Rattle.grammar.specs.Readers.{dot_up}
use Rattle.grammar.proofs.Paths.{Leads}
use Rattle.grammar.proofs.ups.Given as goal

abbrev pub invariant-loop-p : goal.invariant-loop-p
invariant-loop-p l = Leads dot_up l.tokens.source.now l.at l.i

abbrev pub decreases-loop-p : goal.decreases-loop-p
decreases-loop-p l = length l.tokens.source.now - l.i
