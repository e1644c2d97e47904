use Rattle.emit_bases.proofs.Laws.{base_path}
use Rattle.emit_bases.proofs.path_base.Goals as goal

pub returns : goal.returns
returns c =
    base_path _ _ _ _ _ _ _ _ _ c.requires _ _ c.emit_path-m.ensures _ c.saturating_sub-d.ensures _ c.path_entry-entry.ensures _ c.set_expression.ensures
