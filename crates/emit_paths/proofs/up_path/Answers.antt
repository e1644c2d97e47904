use Rattle.emit_paths.proofs.Laws.{up_emits}
use Rattle.emit_paths.proofs.up_path.Goals as goal

pub returns : goal.returns
returns c =
    up_emits _ _ _ _ _ _ _ _ c.requires _ c.ups-u.ensures _ _ c.holder-m.ensures _ _ c.dotted-d.ensures _ c.arrive.ensures
