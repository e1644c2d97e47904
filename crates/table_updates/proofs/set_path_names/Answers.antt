use Rattle.table_updates.specs.Updates.{set_path_names}
use Rattle.table_updates.proofs.set_path_names.Goals as goal

pub returns : goal.returns
unfolding set_path_names
returns c = c.set_word.ensures
