use Rattle.line.proofs.Laws.{writes_int, writes_text, writes_code, writes_frame}
use borrow.Author.Rules.{rules}
use Rattle.line.proofs.write_line.Goals as goal

pub returns-in-Int : goal.returns-in-Int
returns-in-Int c = search (writes_int, rules)

pub returns-in-Text : goal.returns-in-Text
returns-in-Text c = search writes_text

pub returns-in-Code : goal.returns-in-Code
returns-in-Code c = search writes_code

pub returns-in-Frame : goal.returns-in-Frame
returns-in-Frame c = search writes_frame
