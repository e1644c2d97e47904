use Rattle.emit_names.proofs.Laws.{Writing}
use Prim.Native.Nat.{◌-◌}
use lib.ListN.{length}
use Rattle.emit_names.proofs.write_bytes.Given as goal

abbrev pub invariant-loop-i : goal.invariant-loop-i
invariant-loop-i l = Writing l.initial.p l.k l.w l.p l.i
