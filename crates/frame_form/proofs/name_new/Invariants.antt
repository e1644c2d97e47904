use Prim.Native.Nat.{◌-◌}
use Rattle.frame_form.specs.Tests.{name_apart}
use Rattle.words.proofs.Laws.{Upto}
use Rattle.frame_form.proofs.name_new.Given as goal

abbrev pub invariant-loop-j : goal.invariant-loop-j
invariant-loop-j l = Upto (name_apart l.h l.f l.i) l.i l.j l.ok

abbrev pub decreases-loop-j : goal.decreases-loop-j
decreases-loop-j l = l.i - l.j
