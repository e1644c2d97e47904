use native.Mathlib.Omega.{arith}
use Rattle.collector.proofs.Sweep.{sweep_start, sweep_size, frame_freed, frame_kept, frames_done}
use Rattle.collector.proofs.sweep_frames.Goals as goal

pub loop-f-init : goal.loop-f-init
loop-f-init c = search sweep_start

pub loop-f-preserved : goal.loop-f-preserved
loop-f-preserved c = grind (arith, frame_freed, frame_kept)

pub shape_of-h : goal.shape_of-h
shape_of-h c = search sweep_size

pub returns : goal.returns
returns c = search frames_done
