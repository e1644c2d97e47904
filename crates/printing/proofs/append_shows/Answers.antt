use borrow.Author.Rules.{rules}
use Rattle.printing.proofs.Laws.{shows_fit, shows_near, shows_appended}
use Rattle.printing.proofs.append_shows.Goals as goal

pub append-requires : goal.append-requires
append-requires c = search (shows_fit, rules)

pub returns : goal.returns
returns c = record { appends = search shows_appended; near = search (shows_near, rules) }
