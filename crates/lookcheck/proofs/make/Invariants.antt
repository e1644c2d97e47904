use Prim.Native.Nat.{◌-◌}
use mathlib.Core.Path.{◌≡◌}
use lib.ListN.{length}
use Rattle.lookcheck.proofs.make.Given as goal

abbrev pub invariant-loop-at : goal.invariant-loop-at
invariant-loop-at l = (length l.p ≡ length l.initial.p) × (length l.h ≡ length l.initial.h) × (length l.l ≡ length l.initial.l) × (length l.t ≡ length l.initial.t)

abbrev pub decreases-loop-at : goal.decreases-loop-at
decreases-loop-at l = length l.made - l.at
