use Rattle.program_names.specs.Tests.{path_name_ok}
use Rattle.program_names.proofs.path_name_ok.Goals as goal

pub returns : goal.returns
unfolding path_name_ok
returns c = rw (c.names.ensures, c.path_name.ensures)
