use Rattle.emit_names.proofs.Laws.{name_written}
use Rattle.emit_names.proofs.write_name.Goals as goal

pub returns : goal.returns
returns c = search name_written
