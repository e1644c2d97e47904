use Rattle.write_words.proofs.Words.{integer_appended}
use Rattle.write_words.proofs.Laws.{can_append}
use borrow.Author.Rules.{rules}
use Rattle.write_words.proofs.append_integer.Goals as goal

pub append-requires : goal.append-requires
append-requires c = search can_append

pub returns : goal.returns
returns c = search (integer_appended, rules)
