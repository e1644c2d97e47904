use Rattle.reserving.proofs.Laws.{frame_given, frame_lowest}
use Rattle.reserving.proofs.lowest_frame_for.Goals as goal

pub returns-then-f-eq0 : goal.returns-then-f-eq0
returns-then-f-eq0 c = search frame_given

pub returns : goal.returns
returns c = search frame_lowest
