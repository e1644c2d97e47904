use Rattle.table_updates.specs.Updates.{set_instructions}
use Rattle.table_updates.proofs.set_instructions.Goals as goal

pub returns : goal.returns
unfolding set_instructions
returns c = c.set_word.ensures
