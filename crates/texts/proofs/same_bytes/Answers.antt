use Rattle.texts.proofs.Laws.{comparing_start, comparing_again, comparing_done, lengths_apart}
use Rattle.texts.proofs.same_bytes.Goals as goal

pub returns-then-a-b : goal.returns-then-a-b
returns-then-a-b c = search lengths_apart

pub loop-i-init : goal.loop-i-init
loop-i-init c = search comparing_start

pub loop-i-preserved : goal.loop-i-preserved
loop-i-preserved c = search comparing_again

pub returns : goal.returns
returns c = search comparing_done
