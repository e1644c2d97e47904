use Rattle.program_parts.specs.Tests.{slot_marked}
use Rattle.program_tests.proofs.slot_marked.Goals as goal

pub returns : goal.returns
unfolding slot_marked
returns c = rw (c.word-2.ensures, c.wide-2.ensures, c.word.ensures, c.wide.ensures)
