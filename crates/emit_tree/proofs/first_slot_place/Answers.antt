use Rattle.emit_tree.proofs.Whole.{first_one, first_none}
use Rattle.emit_tree.proofs.first_slot_place.Goals as goal

pub returns-then-k-eq25 : goal.returns-then-k-eq25
returns-then-k-eq25 c = search first_one

pub returns : goal.returns
returns c = search first_none
