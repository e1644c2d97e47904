use Rattle.table_updates.specs.Updates.{set_text_limit}
use Rattle.table_updates.proofs.set_text_limit.Goals as goal

pub returns : goal.returns
unfolding set_text_limit
returns c = c.set_word.ensures
