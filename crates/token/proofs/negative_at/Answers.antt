use Rattle.source.specs.Positions.{part}
use Rattle.token.proofs.Laws.{negative_large, negative_zero, negative_fits}
use Rattle.token.proofs.negative_at.Goals as goal

pub returns-then-n-eq0 : goal.returns-then-n-eq0
unfolding part
returns-then-n-eq0 c = search negative_zero

pub returns-then-n-le2147483648 : goal.returns-then-n-le2147483648
unfolding part
returns-then-n-le2147483648 c = search negative_fits

pub returns : goal.returns
unfolding part
returns c = search negative_large
