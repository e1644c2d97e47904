use Rattle.decimal.proofs.Laws.{count_is}
use Rattle.decimal.proofs.digit_count.Goals as goal

pub returns-clause-count : goal.returns-clause-count
returns-clause-count c = count_is _ _ c.max.ensures c.ilog10.ensures.power_le c.ilog10.ensures.next_power_gt
