use mir.Facts.{to_z-of_z}
use Rattle.arith.proofs.Laws.{exact}
use Rattle.arith.proofs.plus.Goals as goal

pub returns : goal.returns
returns c = exact _ _ _ (rw (to_z-of_z c.ranges.a, to_z-of_z c.ranges.b) at c.checked_add.ensures) c.ok_or.ensures.value
