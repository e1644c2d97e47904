use Rattle.printing.proofs.Laws.{end_line_appended}
use Rattle.printing.proofs.append_end.Goals as goal

pub returns : goal.returns
returns c = search end_line_appended
