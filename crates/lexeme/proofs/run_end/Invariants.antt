use Rattle.framed.specs.Bytes.{class}
use Prim.Native.Nat.{◌-◌}
use lib.ListN.{length}
use Rattle.lexeme.proofs.Laws.{Running}
use Rattle.lexeme.proofs.run_end.Given as goal

abbrev pub invariant-loop-i : goal.invariant-loop-i
invariant-loop-i l = Running class l.s l.m l.at l.i
