use Rattle.lines.proofs.Laws.{line_start, line_on, line_broken, line_done}
use Rattle.lines.proofs.line_end.Goals as goal

pub loop-i-init : goal.loop-i-init
loop-i-init c = search line_start

pub returns-then-text-i-eq10 : goal.returns-then-text-i-eq10
returns-then-text-i-eq10 c = search line_broken

pub loop-i-preserved : goal.loop-i-preserved
loop-i-preserved c = search line_on

pub returns : goal.returns
returns c = search line_done
