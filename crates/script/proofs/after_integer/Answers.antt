use Rattle.script.proofs.Laws.{after_integer_as}
use Rattle.script.proofs.after_integer.Goals as goal

pub returns-in-Name : goal.returns-in-Name
returns-in-Name c = search after_integer_as

pub returns-in-Open : goal.returns-in-Open
returns-in-Open c = search after_integer_as

pub returns-in-Complete : goal.returns-in-Complete
returns-in-Complete c = search after_integer_as

pub returns-in-Unfit : goal.returns-in-Unfit
returns-in-Unfit c = search after_integer_as
