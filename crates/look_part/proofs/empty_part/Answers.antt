use mathlib.Core.Path.{refl}
use native.Mathlib.Omega.{arith}
use Rattle.texts.specs.Texts.{part_of}
use Rattle.look_part.proofs.empty_part.Goals as goal

pub returns : goal.returns
unfolding part_of
returns c = record { bytes = refl; block = refl; offset = omega arith }
