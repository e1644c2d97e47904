use Rattle.start.proofs.Laws.{start_1, start_2, start_3, start_4}
use Rattle.start.proofs.start_value.Goals as goal

pub returns-in_err-p : goal.returns-in_err-p
returns-in_err-p c = rw c.from_residual.ensures (search (start_1, c.in_err-p.was))

pub returns-in_err-q : goal.returns-in_err-q
returns-in_err-q c = rw c.from_residual-in_err-q.ensures (search (start_2, c.in_ok-p.was, c.in_err-q.was))

pub returns-in_err-u : goal.returns-in_err-u
returns-in_err-u c = rw c.from_residual-in_err-u.ensures (search (start_3, c.in_ok-p.was, c.in_ok-q.was, c.in_err-u.was))

pub returns : goal.returns
returns c = search (start_4, c.in_ok-p.was, c.in_ok-q.was, c.in_ok-u.was)
