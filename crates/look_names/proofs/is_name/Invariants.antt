use Prim.Native.Nat.{◌-◌}
use Rattle.look_names.proofs.Laws.{Comparing}
use Rattle.look_names.proofs.is_name.Given as goal

abbrev pub invariant-loop-i : goal.invariant-loop-i
invariant-loop-i l = Comparing l.p l.k l.w l.n l.i

abbrev pub decreases-loop-i : goal.decreases-loop-i
decreases-loop-i l = l.n - l.i
