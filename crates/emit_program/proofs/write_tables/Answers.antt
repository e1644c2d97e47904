use Rattle.emit_program.proofs.Laws.{tables_done}
use Rattle.emit_program.proofs.write_tables.Goals as goal

pub returns : goal.returns
returns c = search (tables_done, c.requires.short, c.requires.placed)
