use Rattle.operators.proofs.Equal.{int_else, int_same, text_else, text_same, code_else, code_same, frame_else, frame_same}
use borrow.Author.Rules.{rules}
use Rattle.operators.proofs.equal_values.Goals as goal

pub returns-in-Int-Int : goal.returns-in-Int-Int
returns-in-Int-Int c = search (int_same, rules)

pub returns-in-Text-Text : goal.returns-in-Text-Text
returns-in-Text-Text c = search text_same

pub returns-in-Code-Code : goal.returns-in-Code-Code
returns-in-Code-Code c = search code_same

pub returns-in-Frame-Frame : goal.returns-in-Frame-Frame
returns-in-Frame-Frame c = search frame_same

pub returns-in_default : goal.returns-in_default
returns-in_default c = search int_else

pub returns-in_default-2 : goal.returns-in_default-2
returns-in_default-2 c = search text_else

pub returns-in_default-3 : goal.returns-in_default-3
returns-in_default-3 c = search code_else

pub returns-in_default-4 : goal.returns-in_default-4
returns-in_default-4 c = search frame_else
