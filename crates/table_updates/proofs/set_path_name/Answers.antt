use Rattle.table_updates.specs.Updates.{set_path_name}
use Rattle.table_updates.proofs.set_path_name.Goals as goal

pub returns : goal.returns
unfolding set_path_name
returns c = rw (c.set_word.ensures, c.wide.ensures)
