use Rattle.puts.proofs.Laws.{target_empty, one_else, one_found, target_undefined, target_else, target_found}
use Rattle.puts.proofs.put_target.Goals as goal

pub returns-then-n-eq0 : goal.returns-then-n-eq0
returns-then-n-eq0 c = search target_empty

pub returns-in_default : goal.returns-in_default
returns-in_default c = search one_else

pub returns-then-n-eq1 : goal.returns-then-n-eq1
returns-then-n-eq1 c = search one_found

pub returns-in_err-frame : goal.returns-in_err-frame
returns-in_err-frame c = rw c.from_residual.ensures (search (target_undefined, c.in_err-frame.was))

pub returns-in_default-2 : goal.returns-in_default-2
returns-in_default-2 c = search (target_else, c.in_ok-frame.was)

pub returns : goal.returns
returns c = search (target_found, c.in_ok-frame.was)
