use Rattle.framed.specs.Bytes.{class}
use Prim.Native.Nat.{◌-◌}
use lib.ListN.{length}
use Rattle.spaces.proofs.Laws.{Comment}
use Rattle.spaces.proofs.comment_end.Given as goal

abbrev pub invariant-loop-i : goal.invariant-loop-i
invariant-loop-i l = Comment class l.s l.at l.i
