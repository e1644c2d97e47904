use Rattle.tables.specs.Fields.{text_limit}
use Rattle.tables.proofs.text_limit.Goals as goal

pub returns : goal.returns
unfolding text_limit
returns c = c.word.ensures
