use Rattle.program_entries.specs.Tests.{ifeq_ok}
use Rattle.program_entries.proofs.ifeq_ok.Goals as goal

pub returns : goal.returns
unfolding ifeq_ok
returns c = rw (c.base_ok-3.ensures, c.base_ok-2.ensures, c.base_ok.ensures)
