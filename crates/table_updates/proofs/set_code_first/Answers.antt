use Rattle.table_updates.specs.Updates.{set_code_first}
use Rattle.table_updates.proofs.set_code_first.Goals as goal

pub returns : goal.returns
unfolding set_code_first
returns c = rw (c.set_word.ensures, c.wide.ensures)
