use Rattle.emit_names.proofs.Laws.{Listing}
use Prim.Native.Nat.{◌-◌}
use Rattle.emit_names.proofs.write_names.Given as goal

abbrev pub invariant-loop-k : goal.invariant-loop-k
invariant-loop-k l = Listing l.s l.begins l.ends l.initial.p l.n l.p l.k
