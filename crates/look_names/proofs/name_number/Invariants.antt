use Prim.Native.Nat.{◌-◌}
use Rattle.look_names.proofs.Laws.{Seeking}
use Rattle.look_names.proofs.name_number.Given as goal

abbrev pub invariant-loop-k : goal.invariant-loop-k
invariant-loop-k l = Seeking l.p l.w l.n l.k

abbrev pub decreases-loop-k : goal.decreases-loop-k
decreases-loop-k l = l.n - l.k
