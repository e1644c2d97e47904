use Rattle.emit_paths.proofs.Laws.{ups_start, ups_none, ups_again, ups_end}
use Rattle.emit_paths.proofs.ups.Goals as goal

pub loop-at-init : goal.loop-at-init
loop-at-init c = search ups_start

pub returns-then-q-at : goal.returns-then-q-at
returns-then-q-at c = search ups_none

pub loop-at-preserved : goal.loop-at-preserved
loop-at-preserved c = search ups_again

pub returns : goal.returns
returns c = search ups_end
