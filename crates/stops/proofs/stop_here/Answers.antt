use Rattle.stops.proofs.Laws.{here_marked, here_done, here_fuel}
use Rattle.stops.proofs.stop_here.Goals as goal

pub returns-then-e-ne0 : goal.returns-then-e-ne0
returns-then-e-ne0 c = search here_marked

pub returns-then-position-eq0 : goal.returns-then-position-eq0
returns-then-position-eq0 c = search here_done

pub returns : goal.returns
returns c = search here_fuel
