use Rattle.emit_leaves.proofs.Laws.{place_none, place_next}
use Rattle.emit_steps.specs.Steps.{one_more}
use Rattle.emit_leaves.proofs.first_place.Goals as goal

pub returns-then-k-eq15 : goal.returns-then-k-eq15
returns-then-k-eq15 c = search place_none

pub returns : goal.returns
unfolding one_more
returns c = search place_next
