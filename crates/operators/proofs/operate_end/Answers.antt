use Rattle.operators.proofs.Laws.{end_compared, end_join, end_is, end_none}
use Rattle.operators.proofs.operate_end.Goals as goal

pub returns-then-kind-gt12 : goal.returns-then-kind-gt12
returns-then-kind-gt12 c = search end_compared

pub returns-then-kind-ge12 : goal.returns-then-kind-ge12
returns-then-kind-ge12 c = search end_join

pub returns-in_err-arithmetic : goal.returns-in_err-arithmetic
returns-in_err-arithmetic c = end_is _ _ _ _ _ _ _ c.if-kind-ge12.false _ c.in_err-arithmetic.ensures _ c.from_residual.ensures.1

pub returns : goal.returns
returns c = end_none _ _ _ _ _ _ _ c.if-kind-ge12.false _ c.in_ok-arithmetic.ensures
