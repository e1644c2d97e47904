use Rattle.look.proofs.Laws.{answer_found, answer_undefined, answer_not_path}
use Rattle.look.proofs.answer.Goals as goal

pub returns-in-Found : goal.returns-in-Found
returns-in-Found c = search answer_found

pub returns-in-Undefined : goal.returns-in-Undefined
returns-in-Undefined c = search answer_undefined

pub returns-in-NotPath : goal.returns-in-NotPath
returns-in-NotPath c = search answer_not_path
