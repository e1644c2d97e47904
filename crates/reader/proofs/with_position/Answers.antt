use Rattle.reader.proofs.Laws.{as_next}
use Rattle.reader.proofs.with_position.Goals as goal

pub returns-in-End : goal.returns-in-End
returns-in-End c = search as_next

pub returns-in-NoToken : goal.returns-in-NoToken
returns-in-NoToken c = search as_next

pub returns-in-Token : goal.returns-in-Token
returns-in-Token c = search as_next
