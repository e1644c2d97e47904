use Rattle.printing.proofs.Laws.{refused_appended}
use Rattle.printing.proofs.print_refused.Goals as goal

pub returns : goal.returns
returns c = search refused_appended
