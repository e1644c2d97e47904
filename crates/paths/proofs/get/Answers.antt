use Rattle.paths.proofs.Laws.{get_else, get_past, get_free, get_missing, get_found}
use Rattle.paths.proofs.get.Goals as goal

pub returns-in_default : goal.returns-in_default
returns-in_default c = search get_else

pub returns-then-f-ge256 : goal.returns-then-f-ge256
returns-then-f-ge256 c = search get_past

pub returns-then-not-frame_used : goal.returns-then-not-frame_used
returns-then-not-frame_used c = search get_free

pub returns-in_err-i : goal.returns-in_err-i
returns-in_err-i c = rw c.from_residual.ensures (search (get_missing, c.in_err-i.was))

pub returns : goal.returns
returns c = search (get_found, c.in_ok-i.was)
