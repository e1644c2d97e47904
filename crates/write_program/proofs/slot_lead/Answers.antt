use Rattle.write_program.proofs.Loops.{lead_first, lead_further}
use Rattle.write_program.proofs.slot_lead.Goals as goal

pub returns-then-first : goal.returns-then-first
returns-then-first c = search lead_first

pub returns : goal.returns
returns c = search lead_further
