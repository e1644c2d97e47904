use Rattle.table_updates.specs.Updates.{set_instruction_link}
use Rattle.table_updates.proofs.set_instruction_link.Goals as goal

pub returns : goal.returns
unfolding set_instruction_link
returns c = rw (c.set_word.ensures, c.wide.ensures)
