use Rattle.look.proofs.Laws.{kind_integer, kind_text, kind_code, kind_frame}
use borrow.Author.Rules.{rules}
use Rattle.look.proofs.kind_answer.Goals as goal

pub returns-in-Int : goal.returns-in-Int
returns-in-Int c = search (kind_integer, rules)

pub returns-in-Text : goal.returns-in-Text
returns-in-Text c = search kind_text

pub returns-in-Code : goal.returns-in-Code
returns-in-Code c = search kind_code

pub returns-in-Frame : goal.returns-in-Frame
returns-in-Frame c = search kind_frame
