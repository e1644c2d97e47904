use Rattle.source.specs.Positions.{part}
use Rattle.token.proofs.Laws.{natural_large, natural_fits}
use Rattle.token.proofs.natural_at.Goals as goal

pub returns-then-n-le2147483647 : goal.returns-then-n-le2147483647
unfolding part
returns-then-n-le2147483647 c = search natural_fits

pub returns : goal.returns
unfolding part
returns c = search natural_large
