use mathlib.Core.Path.{refl}
use Rattle.emit_steps.specs.Steps.{one_more}
use Rattle.emit_paths.proofs.Laws.{holding_start, holding_full, holding_again, holding_done}
use Rattle.emit_paths.proofs.holder.Goals as goal

pub loop-i-init : goal.loop-i-init
loop-i-init c = search holding_start

pub returns-then-i-ge16 : goal.returns-then-i-ge16
returns-then-i-ge16 c = search holding_full

pub loop-i-preserved : goal.loop-i-preserved
unfolding one_more
loop-i-preserved c =
    holding_again _ _ _ _ _ _ _ c.loop-i.invariant c.loop-i-test.true _ _ c.wide.ensures refl _ c.set_path_name.ensures _ (c.saturating_add-j.ensures)

pub returns : goal.returns
returns c = search holding_done
