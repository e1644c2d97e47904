use Prim.Native.Nat.{◌-◌}
use Rattle.text_form.specs.Tests.{text_byte_formed}
use Rattle.words.proofs.Laws.{Upto}
use Rattle.text_form.proofs.text_bytes_formed.Given as goal

abbrev pub invariant-loop-i : goal.invariant-loop-i
invariant-loop-i l = Upto (text_byte_formed l.t l.k) l.n l.i l.ok

abbrev pub decreases-loop-i : goal.decreases-loop-i
decreases-loop-i l = l.n - l.i
