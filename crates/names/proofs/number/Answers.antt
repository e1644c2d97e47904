use Rattle.names.proofs.Numbers.{number_known, number_next}
use Rattle.names.proofs.number.Goals as goal

pub returns-then-r-n : goal.returns-then-r-n
returns-then-r-n c = search number_known

pub returns : goal.returns
returns c = search number_next
