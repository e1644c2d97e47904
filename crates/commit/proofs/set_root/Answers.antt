use Rattle.commit.proofs.Laws.{sets_self_root, sets_program_root}
use Rattle.commit.proofs.set_root.Goals as goal

pub returns-then-own : goal.returns-then-own
returns-then-own c = search sets_self_root

pub returns : goal.returns
returns c = search sets_program_root
