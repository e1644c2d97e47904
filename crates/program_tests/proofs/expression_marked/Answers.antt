use Rattle.program_parts.specs.Tests.{expression_marked_as}
use Rattle.program_tests.proofs.expression_marked.Goals as goal

pub returns : goal.returns
unfolding expression_marked_as
returns c = rw (c.parts_marked.ensures, c.expression_at.ensures)
