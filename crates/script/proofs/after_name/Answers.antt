use Rattle.script.proofs.Laws.{name_inside, name_first}
use Rattle.script.proofs.after_name.Goals as goal

pub returns-then-is_open : goal.returns-then-is_open
returns-then-is_open c = search name_inside

pub returns : goal.returns
returns c = search name_first
