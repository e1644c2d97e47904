use Rattle.emit_literals.proofs.Laws.{Passing}
use Prim.Native.Nat.{◌-◌}
use Rattle.emit_literals.proofs.write_literals.Given as goal

abbrev pub invariant-loop-k : goal.invariant-loop-k
invariant-loop-k l = Passing l.tokens.source.now l.initial.p l.initial.l l.p l.l l.k
