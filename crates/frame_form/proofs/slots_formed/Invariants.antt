use Prim.Native.Nat.{◌-◌}
use Rattle.frame_form.specs.Tests.{slot_formed}
use Rattle.words.proofs.Laws.{Upto}
use Rattle.frame_form.proofs.slots_formed.Given as goal

abbrev pub invariant-loop-i : goal.invariant-loop-i
invariant-loop-i l = Upto (slot_formed l.h l.limits l.f) l.n l.i l.ok

abbrev pub decreases-loop-i : goal.decreases-loop-i
decreases-loop-i l = l.n - l.i
