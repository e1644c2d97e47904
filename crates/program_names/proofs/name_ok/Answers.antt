use Rattle.program_names.specs.Keys.{name_ok_by}
use Rattle.program_names.proofs.name_ok.Goals as goal

pub returns : goal.returns
unfolding name_ok_by
returns c = rw (c.is_new.ensures, c.name_length-2.ensures, c.name_length.ensures)
