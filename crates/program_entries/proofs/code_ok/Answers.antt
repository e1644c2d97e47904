use Rattle.program_entries.specs.Tests.{code_ok}
use Rattle.program_entries.proofs.code_ok.Goals as goal

pub returns : goal.returns
unfolding code_ok
returns c = rw (c.instructions.ensures, c.code_first.ensures)
