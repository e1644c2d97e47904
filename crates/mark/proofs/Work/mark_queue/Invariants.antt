use Prim.Native.Nat.{◌-◌}
use Rattle.mark.proofs.MarkLaws.{Queue}
use Rattle.mark.proofs.Work.mark_queue.Given as goal

abbrev pub invariant-loop-k : goal.invariant-loop-k
invariant-loop-k l = Queue l.h l.initial.self l.self l.k

abbrev pub decreases-loop-k : goal.decreases-loop-k
decreases-loop-k l = 256 - l.k
