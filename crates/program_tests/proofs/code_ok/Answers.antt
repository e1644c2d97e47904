use Rattle.program_parts.specs.Tests.{code_ok}
use Rattle.program_tests.proofs.code_ok.Goals as goal

pub returns : goal.returns
unfolding code_ok
returns c = rw (c.word-2.ensures, c.wide-2.ensures, c.word.ensures, c.wide.ensures)
