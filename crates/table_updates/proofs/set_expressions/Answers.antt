use Rattle.table_updates.specs.Updates.{set_expressions}
use Rattle.table_updates.proofs.set_expressions.Goals as goal

pub returns : goal.returns
unfolding set_expressions
returns c = c.set_word.ensures
