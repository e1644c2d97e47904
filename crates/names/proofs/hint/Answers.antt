use Rattle.names.proofs.Laws.{hint_is}
use Rattle.names.proofs.hint.Goals as goal

pub returns : goal.returns
returns c = search hint_is
