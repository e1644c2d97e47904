use Rattle.program_entries.proofs.Laws.{path_sum}
use Rattle.program_entries.proofs.path_ok.Goals as goal

pub returns : goal.returns
returns c = search path_sum
