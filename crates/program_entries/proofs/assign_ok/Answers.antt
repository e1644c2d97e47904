use Rattle.program_entries.specs.Tests.{assign_ok}
use Rattle.program_entries.proofs.assign_ok.Goals as goal

pub returns : goal.returns
unfolding assign_ok
returns c = rw (c.expressions.ensures, c.path_ok.ensures)
