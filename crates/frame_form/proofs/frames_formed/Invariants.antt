use Prim.Native.Nat.{◌-◌}
use Rattle.frame_form.specs.Tests.{frame_formed}
use Rattle.words.proofs.Laws.{Upto}
use Rattle.frame_form.proofs.frames_formed.Given as goal

abbrev pub invariant-loop-f : goal.invariant-loop-f
invariant-loop-f l = Upto (frame_formed l.h l.limits) 256 l.f l.ok

abbrev pub decreases-loop-f : goal.decreases-loop-f
decreases-loop-f l = 256 - l.f
