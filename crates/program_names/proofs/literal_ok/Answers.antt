use Rattle.program_names.specs.Tests.{literal_ok}
use Rattle.program_names.proofs.literal_ok.Goals as goal

pub returns : goal.returns
unfolding literal_ok
returns c = rw (c.literal_bytes_ok.ensures, c.literal_length.ensures)
