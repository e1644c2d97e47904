use Rattle.table_updates.specs.Updates.{set_program_slots}
use Rattle.table_updates.proofs.set_program_slots.Goals as goal

pub returns : goal.returns
unfolding set_program_slots
returns c = c.set_word.ensures
