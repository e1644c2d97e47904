use Rattle.write_words.proofs.Paths.{path_fits, path_at_name, naming_start, naming_again, naming_done}
use Rattle.write_words.proofs.Laws.{can_append}
use borrow.Author.Rules.{rules}
use Rattle.write_words.proofs.append_names.Goals as goal

pub loop-i-init : goal.loop-i-init
loop-i-init c = search naming_start

pub overflow_add-j : goal.overflow_add-j
overflow_add-j c = search (path_fits, rules)

pub append_name-b-requires : goal.append_name-b-requires
append_name-b-requires c =
    (search path_at_name, can_append c.loop-i.invariant.grown.can c.append-a.ensures)

pub loop-i-preserved : goal.loop-i-preserved
loop-i-preserved c = search naming_again

pub returns : goal.returns
returns c = search naming_done
