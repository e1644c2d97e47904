use Rattle.emit_paths.proofs.Laws.{Holding}
use Prim.Native.Nat.{◌-◌}
use Rattle.emit_paths.proofs.holder.Given as goal

abbrev pub invariant-loop-i : goal.invariant-loop-i
invariant-loop-i l = Holding l.place.names l.levels l.paths l.initial.p l.j l.p l.i
