use mathlib.Core.Path.{refl}
use native.Mathlib.Omega.{arith}
use Rattle.texts.proofs.Laws.{part_is}
use Rattle.look_part.proofs.cut.Goals as goal

pub returns : goal.returns
returns c = record { bytes = part_is _ _ _; block = refl; offset = omega arith }
