use Rattle.joining.proofs.Laws.{filled, filled_size}
use Rattle.joining.proofs.fill_join.Goals as goal

pub returns : goal.returns
returns c = record { bytes = search filled; size = search filled_size }
