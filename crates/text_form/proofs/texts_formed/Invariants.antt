use Prim.Native.Nat.{◌-◌}
use Rattle.text_form.specs.Tests.{text_formed}
use Rattle.words.proofs.Laws.{Upto}
use Rattle.text_form.proofs.texts_formed.Given as goal

abbrev pub invariant-loop-k : goal.invariant-loop-k
invariant-loop-k l = Upto (text_formed l.h l.t) 256 l.k l.ok

abbrev pub decreases-loop-k : goal.decreases-loop-k
decreases-loop-k l = 256 - l.k
