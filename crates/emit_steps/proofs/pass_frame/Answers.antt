use Rattle.emit_steps.proofs.Laws.{frame_none, frame_half, frame_all}
use Rattle.emit_steps.proofs.pass_frame.Goals as goal

pub returns-then-p-at : goal.returns-then-p-at
returns-then-p-at c = search frame_none

pub returns-then-q-p : goal.returns-then-q-p
returns-then-q-p c = search frame_half

pub returns : goal.returns
returns c = search frame_all
