use Rattle.decimal.proofs.Laws.{decimal_up, decimal_down}
use Rattle.decimal.proofs.decimal.Goals as goal

pub returns-then-n-ge0 : goal.returns-then-n-ge0
returns-then-n-ge0 c = decimal_up _ c.ranges.n _ c.unsigned_abs.ensures.value c.if-n-ge0.true c.digits-start.ensures

pub returns : goal.returns
returns c = decimal_down _ c.ranges.n _ c.unsigned_abs.ensures.value c.if-n-ge0.false c.digits-start.ensures
