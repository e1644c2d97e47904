use Rattle.look_part.proofs.Laws.{literal_past, literal_here}
use Rattle.look_part.proofs.literal_part.Goals as goal

pub returns-then-literals-k : goal.returns-then-literals-k
returns-then-literals-k c = search literal_past

pub returns : goal.returns
returns c = search literal_here
