use Rattle.program_parts.specs.Tests.{operand_ok}
use Rattle.program_tests.proofs.operand_ok.Goals as goal

pub returns : goal.returns
unfolding operand_ok
returns c = rw (c.word-2.ensures, c.wide-2.ensures, c.word.ensures, c.wide.ensures)
