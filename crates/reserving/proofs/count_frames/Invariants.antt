use Rattle.heap.specs.Words.{frame_used}
use Rattle.reserving.proofs.Tally.{Tally}
use Rattle.reserving.proofs.count_frames.Given as goal

abbrev pub invariant-loop-g : goal.invariant-loop-g
invariant-loop-g l = Tally (frame_used l.h) l.g l.n
