use Rattle.program_parts.specs.Tests.{code_marked_as}
use Rattle.program_tests.proofs.code_marked.Goals as goal

pub returns : goal.returns
unfolding code_marked_as
returns c =
    rw (
      c.word-2.ensures,
      c.wide-2.ensures,
      c.word.ensures,
      c.wide.ensures,
      c.code_first-2.ensures,
      c.code_first.ensures,
    )
