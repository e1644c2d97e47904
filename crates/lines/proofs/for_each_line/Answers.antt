use mathlib.Core.Path.{refl}
use Rattle.lines.proofs.Laws.{visited_on}
use Rattle.lines.proofs.for_each_line.Goals as goal

pub loop-at-preserved : goal.loop-at-preserved
loop-at-preserved g c = visited_on c.loop-at.invariant c.loop-at-test.true c.line_end-end.ensures (record { shown = _; shows = refl; says = record { met = rw c.in_ok-f.was at c.f.ensures } })
