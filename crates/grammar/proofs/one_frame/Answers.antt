use Rattle.grammar.proofs.Whole.{frame_none, frame_ends}
use Rattle.grammar.proofs.one_frame.Goals as goal

pub returns-in_default : goal.returns-in_default
returns-in_default c = search frame_none

pub returns : goal.returns
returns c = search frame_ends
