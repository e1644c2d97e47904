use Rattle.heap.proofs.Loops.{take_long, take_short}
use Rattle.heap.proofs.take_text.Goals as goal

pub returns-then-n-gt64 : goal.returns-then-n-gt64
returns-then-n-gt64 c = search take_long

pub returns : goal.returns
returns c = search take_short
