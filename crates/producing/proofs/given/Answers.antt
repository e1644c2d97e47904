use mathlib.Core.Path.{◌∙◌}
use Rattle.producing.proofs.Laws.{given_or}
use Rattle.producing.proofs.given.Goals as goal

pub returns : goal.returns
returns c = c.unwrap_or.ensures ∙ given_or _ _ _ _ c.operand.ensures
