use Rattle.program_parts.specs.Tests.{both_parts_ok}
use Rattle.program_tests.proofs.both_parts_ok.Goals as goal

pub returns : goal.returns
unfolding both_parts_ok
returns c = rw (c.part_ok-2.ensures, c.part_ok.ensures)
