use Rattle.heap.proofs.Loops.{add_full, add_here}
use Rattle.heap.proofs.add_slot.Goals as goal

pub returns-then-n-ge16 : goal.returns-then-n-ge16
returns-then-n-ge16 c = search add_full

pub returns : goal.returns
returns c = search add_here
