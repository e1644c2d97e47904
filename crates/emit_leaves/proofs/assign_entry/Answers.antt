use Rattle.emit_leaves.proofs.Laws.{assign_self, assign_program}
use Rattle.emit_leaves.proofs.assign_entry.Goals as goal

pub returns-then-k-eq1 : goal.returns-then-k-eq1
returns-then-k-eq1 c = search assign_self

pub returns : goal.returns
returns c = search assign_program
