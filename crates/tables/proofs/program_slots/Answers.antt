use Rattle.tables.specs.Fields.{program_slots}
use Rattle.tables.proofs.program_slots.Goals as goal

pub returns : goal.returns
unfolding program_slots
returns c = c.word.ensures
