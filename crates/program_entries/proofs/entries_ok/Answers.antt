use Rattle.program_entries.proofs.Laws.{limits_bad, tables_tell}
use Rattle.program_entries.proofs.entries_ok.Goals as goal

pub returns-then-limits_ok : goal.returns-then-limits_ok
returns-then-limits_ok c = search tables_tell

pub returns-else-limits_ok : goal.returns-else-limits_ok
returns-else-limits_ok c = search limits_bad
