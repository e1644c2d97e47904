use Rattle.program_names.proofs.Laws.{lengths_differ, bytes_tell}
use Rattle.program_names.proofs.names_differ.Goals as goal

pub returns-then-name_length : goal.returns-then-name_length
returns-then-name_length c = search lengths_differ

pub returns : goal.returns
returns c = search bytes_tell
