use Rattle.shown.proofs.Laws.{size_int, size_text, size_code, size_frame}
use mathlib.Core.Path.{refl}
use borrow.Author.Rules.{rules}
use Rattle.shown.proofs.shown_size.Goals as goal

pub returns-in-Int : goal.returns-in-Int
returns-in-Int c = search (size_int, rules)

pub returns-in-Text : goal.returns-in-Text
returns-in-Text c = search size_text

pub returns-in-Code : goal.returns-in-Code
returns-in-Code c = search (size_code, refl)

pub returns-in-Frame : goal.returns-in-Frame
returns-in-Frame c = search (size_frame, refl)
