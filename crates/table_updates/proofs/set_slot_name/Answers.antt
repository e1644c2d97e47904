use Rattle.table_updates.specs.Updates.{set_slot_name}
use Rattle.table_updates.proofs.set_slot_name.Goals as goal

pub returns : goal.returns
unfolding set_slot_name
returns c = rw (c.set_word.ensures, c.wide.ensures)
