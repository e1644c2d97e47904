use Rattle.token_cache.proofs.Laws.{last_there, last_none}
use Rattle.token_cache.proofs.last_of.Goals as goal

pub returns-then-e-k : goal.returns-then-e-k
returns-then-e-k c = search last_there

pub returns : goal.returns
returns c = search last_none
