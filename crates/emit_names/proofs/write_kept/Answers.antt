use Rattle.emit_names.proofs.Laws.{kept_short, kept_written}
use Rattle.emit_names.proofs.write_kept.Goals as goal

pub write_name-requires : goal.write_name-requires
write_name-requires c = search kept_short

pub returns : goal.returns
returns c = search kept_written
