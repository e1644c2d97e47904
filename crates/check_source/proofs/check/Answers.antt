use Rattle.check_source.proofs.Laws.{lengths_refuse, limits_refuse, limits_short, source_refuses}
use Rattle.check_source.proofs.check.Goals as goal

pub returns-in_err-lengths_refusal-clause-number : goal.returns-in_err-lengths_refusal-clause-number
returns-in_err-lengths_refusal-clause-number c = lengths_refuse _ _ _ _ _ c.lengths_refusal.ensures _ c.in_err-lengths_refusal.was _ c.from_residual.ensures.1

pub returns-in_err-limits_refusal-clause-number : goal.returns-in_err-limits_refusal-clause-number
returns-in_err-limits_refusal-clause-number c =
    limits_refuse _ _ _ _ _ c.lengths_refusal.ensures _ c.in_ok-lengths_refusal.was _ c.limits_refusal.ensures _ c.in_err-limits_refusal.was _ c.from_residual-in_err-limits_refusal.ensures.1

pub source_refusal-requires-clause-short : goal.source_refusal-requires-clause-short
source_refusal-requires-clause-short c = limits_short _ _ _ _ _ c.lengths_refusal.ensures _ c.in_ok-lengths_refusal.was _ c.limits_refusal.ensures _ c.in_ok-limits_refusal.was

pub returns-clause-number : goal.returns-clause-number
returns-clause-number c = source_refuses _ _ _ _ _ c.lengths_refusal.ensures _ c.in_ok-lengths_refusal.was _ c.limits_refusal.ensures _ c.in_ok-limits_refusal.was _ c.source_refusal.ensures.number
