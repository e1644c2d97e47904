use borrow.Author.Rules.{rules}
use Rattle.printing.proofs.Laws.{field_appended}
use Rattle.printing.proofs.append_field.Goals as goal

pub returns : goal.returns
returns c = record { appends = search field_appended; near = search rules }
