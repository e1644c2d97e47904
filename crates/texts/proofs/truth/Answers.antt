use Rattle.texts.proofs.Laws.{truth_else, truth_int}
use borrow.Author.Rules.{rules}
use Rattle.texts.proofs.truth.Goals as goal

pub returns-in_default : goal.returns-in_default
returns-in_default c = search truth_else

pub returns : goal.returns
returns c = search (truth_int, rules)
