use Rattle.program_entries.specs.Tests.{frame_ok}
use Rattle.program_entries.proofs.frame_ok.Goals as goal

pub returns : goal.returns
unfolding frame_ok
returns c =
    rw
    (c.slots_ok.ensures, c.link.ensures, c.link_ok.ensures, c.expressions.ensures)
