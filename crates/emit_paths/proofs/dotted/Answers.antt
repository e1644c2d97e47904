use Rattle.emit_paths.proofs.Laws.{dotted_start, dotted_none, dotted_half, dotted_less, dotted_again, dotted_end}
use Rattle.emit_steps.specs.Steps.{one_more}
use Rattle.emit_paths.proofs.dotted.Goals as goal

pub loop-at-init : goal.loop-at-init
loop-at-init c = search dotted_start

pub returns-then-d-ne7 : goal.returns-then-d-ne7
returns-then-d-ne7 c = search (dotted_none, c.loop-at.invariant, c.look-d.ensures)

pub returns-then-t-ne25 : goal.returns-then-t-ne25
returns-then-t-ne25 c = search (dotted_half, c.loop-at.invariant, c.look-t.ensures)

pub loop-at-smaller : goal.loop-at-smaller
loop-at-smaller c = search dotted_less

pub loop-at-preserved : goal.loop-at-preserved
unfolding one_more
loop-at-preserved c = search dotted_again

pub returns : goal.returns
returns c = search dotted_end
