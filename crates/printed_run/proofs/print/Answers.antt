use mathlib.Core.Path.{◌∙◌}
use native.Mathlib.Omega.{arith}
use Rattle.printed_run.proofs.Laws.{part_printed}
use Rattle.printed_run.proofs.print.Goals as goal

pub returns : goal.returns
returns c = c.front.ensures ∙ part_printed _ _ _ _ (omega arith) c.write_print-n.ensures
