use Rattle.names.proofs.Laws.{known_start, known_found, known_again, known_none}
use Rattle.names.proofs.known.Goals as goal

pub loop-k-init : goal.loop-k-init
loop-k-init c = search known_start

pub returns-then-same_parts : goal.returns-then-same_parts
returns-then-same_parts c = search known_found

pub loop-k-preserved : goal.loop-k-preserved
loop-k-preserved c = search known_again

pub returns : goal.returns
returns c = search known_none
