use Rattle.program_entries.specs.Tests.{base_ok}
use Rattle.program_entries.proofs.base_ok.Goals as goal

pub returns : goal.returns
unfolding base_ok
returns c = rw (c.expression_kind.ensures, c.expressions.ensures)
