use Rattle.program_parts.specs.Tests.{instruction_marked_as}
use Rattle.program_tests.proofs.instruction_marked.Goals as goal

pub returns : goal.returns
unfolding instruction_marked_as
returns c = rw (c.stands_ok.ensures, c.operands_marked.ensures, c.instruction_at.ensures)
