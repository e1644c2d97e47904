use Rattle.program_names.specs.Tests.{literal_byte_ok}
use Rattle.program_names.proofs.literal_byte_ok.Goals as goal

pub returns : goal.returns
unfolding literal_byte_ok
returns c = rw (c.literal_length.ensures, c.string_byte.ensures, c.literal_byte.ensures)
