use Rattle.source.specs.Positions.{part}
use Rattle.token.proofs.Laws.{name_long, name_fits}
use Rattle.token.proofs.name_at.Goals as goal

pub returns-then-p-at-le16 : goal.returns-then-p-at-le16
unfolding part
returns-then-p-at-le16 c = search name_fits

pub returns : goal.returns
returns c = search name_long
