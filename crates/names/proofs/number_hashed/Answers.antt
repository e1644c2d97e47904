use Rattle.names.proofs.Numbers.{number_new}
use Rattle.names.proofs.number_hashed.Goals as goal

pub returns-then-g-eq0 : goal.returns-then-g-eq0
returns-then-g-eq0 c = search number_new
