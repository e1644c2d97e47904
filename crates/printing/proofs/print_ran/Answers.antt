use Rattle.printing.proofs.Laws.{ran_appended}
use Rattle.printing.proofs.print_ran.Goals as goal

pub returns : goal.returns
returns c = search ran_appended
