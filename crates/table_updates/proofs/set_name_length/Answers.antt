use Rattle.table_updates.specs.Updates.{set_name_length}
use Rattle.table_updates.proofs.set_name_length.Goals as goal

pub returns : goal.returns
unfolding set_name_length
returns c = rw (c.set_word.ensures, c.wide.ensures)
