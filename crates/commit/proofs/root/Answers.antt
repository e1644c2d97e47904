use Rattle.commit.proofs.Laws.{root_self, root_program}
use Rattle.commit.proofs.root.Goals as goal

pub returns-then-own : goal.returns-then-own
returns-then-own c = search root_self

pub returns : goal.returns
returns c = search root_program
