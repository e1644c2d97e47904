use Rattle.start.proofs.Laws.{value_none, value_some}
use Rattle.start.proofs.slot_value.Goals as goal

pub returns-in_err-p : goal.returns-in_err-p
returns-in_err-p c = rw c.from_residual.ensures (search (value_none, c.in_err-p.was))

pub returns : goal.returns
returns c = search (value_some, c.in_ok-p.was)
