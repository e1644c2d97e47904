use Rattle.texts.proofs.Laws.{texts_compared}
use Rattle.texts.proofs.same_texts.Goals as goal

pub returns : goal.returns
returns c = search texts_compared
