use Rattle.decimal.proofs.Laws.{size_is}
use Rattle.decimal.proofs.size.Goals as goal

pub returns : goal.returns
returns c = size_is _ c.ranges.n _ c.unsigned_abs.ensures.value c.digit_count.ensures.count c.from.ensures
