use Rattle.start.proofs.Laws.{opening_1, opening_2, opening_3}
use Rattle.start.proofs.frame_slots.Goals as goal

pub returns-in_err-p : goal.returns-in_err-p
returns-in_err-p c = rw c.from_residual.ensures (search (opening_1, c.in_err-p.was))

pub returns-in_err-q : goal.returns-in_err-q
returns-in_err-q c = rw c.from_residual-in_err-q.ensures (search (opening_2, c.in_ok-p.was, c.in_err-q.was))

pub returns : goal.returns
returns c = search (opening_3, c.in_ok-p.was, c.in_ok-q.was)
