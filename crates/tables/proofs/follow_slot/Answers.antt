use Rattle.tables.proofs.Laws.{follow_end, follow_on}
use Rattle.tables.proofs.follow_slot.Goals as goal

pub returns-then-z-eq0 : goal.returns-then-z-eq0
returns-then-z-eq0 c = search follow_end

pub returns : goal.returns
returns c = search follow_on
