use Rattle.line.proofs.Laws.{digits_written}
use borrow.Author.Rules.{rules}
use Rattle.line.proofs.write_integer.Goals as goal

pub returns : goal.returns
returns c = search (digits_written, rules)
