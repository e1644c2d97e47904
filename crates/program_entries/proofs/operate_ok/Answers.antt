use Rattle.program_entries.specs.Tests.{operate_ok}
use Rattle.program_entries.proofs.operate_ok.Goals as goal

pub returns : goal.returns
unfolding operate_ok
returns c = rw (c.base_ok-2.ensures, c.base_ok.ensures)
