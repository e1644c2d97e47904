use Rattle.program_names.specs.Tests.{texts_ok}
use Rattle.program_names.proofs.texts_ok.Goals as goal

pub returns : goal.returns
unfolding texts_ok
returns c = rw (c.path_names_ok.ensures, c.literals_ok.ensures, c.names_ok.ensures)
