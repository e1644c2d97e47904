use Rattle.grammar.proofs.Paths.{dot_name_none, dot_name_then}
use Rattle.grammar.proofs.dot_name.Goals as goal

pub returns-in_err-p : goal.returns-in_err-p
returns-in_err-p c = rw c.from_residual.ensures (search (dot_name_none, c.in_err-p.was))

pub returns : goal.returns
returns c = search (dot_name_then, c.in_ok-p.was)
