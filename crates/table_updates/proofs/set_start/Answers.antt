use Rattle.table_updates.specs.Updates.{set_start}
use Rattle.table_updates.proofs.set_start.Goals as goal

pub returns : goal.returns
unfolding set_start
returns c = c.set_word.ensures
