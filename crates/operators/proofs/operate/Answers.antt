use Rattle.operators.proofs.Laws.{operates_integer, operates_end, operates_join, operates_too_long, operates_flag}
use borrow.Author.Rules.{rules}
use Rattle.operators.proofs.operate.Goals as goal

pub returns-in_err-arithmetic : goal.returns-in_err-arithmetic
returns-in_err-arithmetic c = operates_end _ _ _ _ _ _ _ c.if-kind-lt12.true _ c.in_err-arithmetic.ensures _ c.from_residual.ensures.1

pub returns-then-kind-lt12 : goal.returns-then-kind-lt12
returns-then-kind-lt12 c = operates_integer _ _ _ _ _ _ _ c.if-kind-lt12.true _ _ c.in_ok-arithmetic.ensures (search rules)

pub returns-in_err-join_end : goal.returns-in_err-join_end
returns-in_err-join_end c = operates_too_long _ _ _ _ _ _ _ c.if-kind-lt12.false c.if-kind-eq12.true _ c.in_err-join_end.ensures _ c.from_residual-in_err-join_end.ensures.1

pub returns-then-kind-eq12 : goal.returns-then-kind-eq12
returns-then-kind-eq12 c = operates_join _ _ _ _ _ _ _ c.if-kind-lt12.false c.if-kind-eq12.true c.in_ok-join_end.ensures

pub returns : goal.returns
returns c = search operates_flag
