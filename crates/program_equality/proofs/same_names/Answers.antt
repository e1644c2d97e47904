use Rattle.program_equality.proofs.Names.{names_compared}
use Rattle.program_equality.proofs.same_names.Goals as goal

pub returns : goal.returns
returns c = search names_compared
