use Rattle.table_updates.specs.Updates.{set_codes}
use Rattle.table_updates.proofs.set_codes.Goals as goal

pub returns : goal.returns
unfolding set_codes
returns c = c.set_word.ensures
