use Rattle.printing.proofs.Laws.{number_appended, number_near}
use Rattle.printing.proofs.append_number.Goals as goal

pub returns : goal.returns
returns c = record { appends = search number_appended; near = search number_near }
