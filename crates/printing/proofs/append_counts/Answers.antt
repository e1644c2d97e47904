use Rattle.printing.proofs.Laws.{counts_appended}
use Rattle.printing.proofs.append_counts.Goals as goal

pub returns : goal.returns
returns c = search counts_appended
