use Rattle.shown.proofs.Laws.{digits_written, digits_size}
use borrow.Author.Rules.{rules}
use Rattle.shown.proofs.write_integer.Goals as goal

pub returns : goal.returns
returns c = record { bytes = search (digits_written, rules); size = search (digits_size, rules); below = search rules }
