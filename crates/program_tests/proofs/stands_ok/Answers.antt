use Rattle.program_parts.specs.Tests.{stands_ok}
use Rattle.program_tests.proofs.stands_ok.Goals as goal

pub returns : goal.returns
unfolding stands_ok
returns c =
    rw (
      c.word-3.ensures,
      c.wide-3.ensures,
      c.word-2.ensures,
      c.wide-2.ensures,
      c.instruction_after-2.ensures,
      c.instruction_after.ensures,
      c.word.ensures,
      c.wide.ensures,
    )
