use Rattle.paths.proofs.Laws.{walk_start, walk_done, walk_undefined, walk_again}
use Rattle.paths.proofs.fetch.Goals as goal

pub loop-i-init : goal.loop-i-init
loop-i-init c = search walk_start

pub returns-in_err-v : goal.returns-in_err-v
returns-in_err-v c = rw c.from_residual.ensures (search (walk_undefined, c.in_err-v.was))

pub loop-i-preserved : goal.loop-i-preserved
loop-i-preserved c = search (walk_again, c.in_ok-v.was)

pub returns : goal.returns
returns c = search walk_done
