use Rattle.emit_names.proofs.Laws.{seen_name_at}
use borrow.Author.Rules.{rules}
use Rattle.emit_paths.proofs.name_number.Goals as goal

pub number_noted-requires : goal.number_noted-requires
number_noted-requires c = search (seen_name_at, rules)
