use Rattle.emit_names.proofs.Laws.{noted_number}
use Rattle.emit_names.proofs.Emission.number_noted.Goals as goal

pub returns-then-g-ne0 : goal.returns-then-g-ne0
returns-then-g-ne0 c = search noted_number
