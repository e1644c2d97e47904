use Rattle.tables.specs.Fields.{instructions}
use Rattle.tables.proofs.instructions.Goals as goal

pub returns : goal.returns
unfolding instructions
returns c = c.word.ensures
