use Rattle.emit_leaves.proofs.Laws.{frame_past, frame_one}
use Rattle.emit_leaves.proofs.open_frame.Goals as goal

pub returns-then-tokens-n : goal.returns-then-tokens-n
returns-then-tokens-n c = search frame_past

pub returns : goal.returns
returns c = search frame_one
