use Rattle.shown.proofs.Laws.{size_int, size_bytes, size_code, size_frame, shows_int, shows_text, shows_code, shows_frame}
use borrow.Author.Rules.{rules}
use Rattle.shown.proofs.write_shown.Goals as goal

pub returns-in-Int : goal.returns-in-Int
returns-in-Int c = record { bytes = search (shows_int, rules); size = search (size_int, rules); below = search rules }

pub returns-in-Text : goal.returns-in-Text
returns-in-Text c = record { bytes = search shows_text; size = search size_bytes; below = search rules }

pub returns-in-Code : goal.returns-in-Code
returns-in-Code c = record { bytes = search shows_code; size = search size_code; below = search rules }

pub returns-in-Frame : goal.returns-in-Frame
returns-in-Frame c = record { bytes = search shows_frame; size = search size_frame; below = search rules }
