use Prim.Native.Nat.{◌-◌}
use lib.ListN.{length}
use Rattle.lexeme.proofs.Laws.{Numbering}
use Rattle.lexeme.proofs.number_of.Given as goal

abbrev pub invariant-loop-i : goal.invariant-loop-i
invariant-loop-i l = Numbering l.digits l.i l.n
