use Rattle.program_equality.proofs.Names.{path_here}
use Rattle.program_equality.proofs.path_names.Goals as goal

pub returns : goal.returns
returns c = search path_here
