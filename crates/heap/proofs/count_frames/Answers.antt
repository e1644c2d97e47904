use Rattle.heap.specs.Words.{frame_used}
use Rattle.heap.specs.Held.{frames_in_use}
use Rattle.std.proofs.Common.{rules}
use Rattle.heap.proofs.count_frames.Goals as goal

pub returns : goal.returns
unfolding frames_in_use
returns c = c.count.ensures (frame_used c.args.h.now) (record { answer = λ i r lt p. search rules })
