use Rattle.texts.proofs.Laws.{literals_compared}
use Rattle.texts.proofs.same_literal_bytes.Goals as goal

pub returns : goal.returns
returns c = search literals_compared
