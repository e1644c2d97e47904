use Rattle.look_names.proofs.Laws.{seeking_start, seeking_found, seeking_again, seeking_done}
use Rattle.look_names.proofs.name_number.Goals as goal

pub loop-k-init : goal.loop-k-init
loop-k-init c = search seeking_start

pub returns-then-is_name : goal.returns-then-is_name
returns-then-is_name c = search seeking_found

pub loop-k-preserved : goal.loop-k-preserved
loop-k-preserved c = search seeking_again

pub returns : goal.returns
returns c = search seeking_done
