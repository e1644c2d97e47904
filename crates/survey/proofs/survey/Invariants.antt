use Prim.Native.Nat.{◌-◌}
use lib.ListN.{length}
use Rattle.survey.proofs.Laws.{Surveying}
use Rattle.survey.proofs.survey.Given as goal

abbrev pub invariant-loop-at : goal.invariant-loop-at
invariant-loop-at l =
    Surveying l.c l.s l.begins l.ends l.hints l.places l.counts l.own l.clean l.n l.m l.depth l.high l.tally l.last l.at

abbrev pub decreases-loop-at : goal.decreases-loop-at
decreases-loop-at l =
    length l.s - l.at
