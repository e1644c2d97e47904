use Rattle.emit_leaves.proofs.Laws.{no_number}
use Rattle.emit_paths.proofs.Symbols.{seen_number}
use Rattle.emit_leaves.proofs.number_here.Goals as goal

pub returns-then-t-ne25 : goal.returns-then-t-ne25
returns-then-t-ne25 c = search no_number

pub returns : goal.returns
returns c = search seen_number
