use Rattle.emit_bases.proofs.Laws.{entry_self, entry_program}
use Rattle.emit_bases.proofs.path_entry.Goals as goal

pub returns-then-k-eq1 : goal.returns-then-k-eq1
returns-then-k-eq1 c = search entry_self

pub returns : goal.returns
returns c = search entry_program
