use Rattle.look_path.proofs.Laws.{dotted_end, dotted_none, dotted_other, dotted_here}
use Rattle.look_path.proofs.dotted_name.Goals as goal

pub returns-then-k-ne7 : goal.returns-then-k-ne7
returns-then-k-ne7 c = search dotted_other

pub returns-in-End : goal.returns-in-End
returns-in-End c = search dotted_end

pub returns-in-NoToken : goal.returns-in-NoToken
returns-in-NoToken c = search dotted_none

pub returns-else-k-ne7 : goal.returns-else-k-ne7
returns-else-k-ne7 c = search dotted_here
