use Rattle.program_form.proofs.Laws.{words_short, bytes_short, entries_bad, parts_tell}
use Rattle.program_form.proofs.program_well_formed.Goals as goal

pub returns-then-p-ne16384 : goal.returns-then-p-ne16384
returns-then-p-ne16384 c = search words_short

pub returns-then-l-ne8192 : goal.returns-then-l-ne8192
returns-then-l-ne8192 c = search bytes_short

pub returns-then-entries_ok : goal.returns-then-entries_ok
returns-then-entries_ok c = search parts_tell

pub returns-else-entries_ok : goal.returns-else-entries_ok
returns-else-entries_ok c = search entries_bad
