use Rattle.program_entries.specs.Tests.{other_name}
use Rattle.program_entries.proofs.other_name.Goals as goal

pub returns : goal.returns
unfolding other_name
returns c = rw (c.slot_name.ensures, c.number.ensures)
