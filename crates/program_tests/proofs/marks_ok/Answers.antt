use Rattle.program_parts.specs.Tests.{marks_ok}
use Rattle.program_tests.proofs.marks_ok.Goals as goal

pub returns : goal.returns
unfolding marks_ok
returns c = rw (c.codes_marked.ensures, c.instructions_marked.ensures, c.expressions_marked.ensures)
