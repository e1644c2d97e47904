use Rattle.program_entries.specs.Tests.{expression_ok}
use Rattle.program_entries.proofs.expression_ok.Goals as goal

pub returns : goal.returns
unfolding expression_ok
returns c = rw (c.expression_entry_ok.ensures, c.expression_at.ensures)
