use Rattle.table_updates.specs.Updates.{set_literals}
use Rattle.table_updates.proofs.set_literals.Goals as goal

pub returns : goal.returns
unfolding set_literals
returns c = c.set_word.ensures
