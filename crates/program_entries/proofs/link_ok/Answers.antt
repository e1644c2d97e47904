use Rattle.program_entries.proofs.Laws.{link_sum}
use Rattle.program_entries.proofs.link_ok.Goals as goal

pub returns : goal.returns
returns c = search link_sum
