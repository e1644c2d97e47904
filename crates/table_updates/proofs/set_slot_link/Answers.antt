use Rattle.table_updates.specs.Updates.{set_slot_link}
use Rattle.table_updates.proofs.set_slot_link.Goals as goal

pub returns : goal.returns
unfolding set_slot_link
returns c = rw (c.set_word.ensures, c.wide.ensures)
