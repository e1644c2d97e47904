use mathlib.Core.Path.{◌∙◌}
use Rattle.paths.proofs.Exits.{passed_end, some_met, none_met}
use Rattle.checking.proofs.Laws.{assign_met, assign_put}
use Rattle.checking.proofs.check_assign.Goals as goal

pub returns-in_err-check_expression : goal.returns-in_err-check_expression
returns-in_err-check_expression c =
    passed_end _ _ c.from_residual.ensures.1 _ c.in_err-check_expression.was ∙ search (assign_met, some_met _ _ c.in_err-check_expression.was)

pub returns : goal.returns
returns c = search (assign_put, none_met _ _ c.in_ok-check_expression.was)
