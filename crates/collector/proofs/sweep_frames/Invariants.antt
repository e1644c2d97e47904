use Rattle.heap.specs.Words.{free_frame}
use Rattle.collector.specs.Collect.{frame_unmarked}
use Rattle.collector.proofs.Sweep.{Sweep}
use Rattle.collector.proofs.sweep_frames.Given as goal

abbrev pub invariant-loop-f : goal.invariant-loop-f
invariant-loop-f l = Sweep free_frame (frame_unmarked l.marks) l.initial.h l.h l.f
