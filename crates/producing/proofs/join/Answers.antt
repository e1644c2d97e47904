use Rattle.joining.proofs.Laws.{front_size}
use Rattle.producing.proofs.Laws.{few, filled_few, joins_filled}
use borrow.Author.Rules.{rules}
use Rattle.producing.proofs.join.Goals as goal

pub slice_bounds-make_text-end : goal.slice_bounds-make_text-end
slice_bounds-make_text-end c = search (front_size, few, rules)

pub make_text-requires : goal.make_text-requires
make_text-requires c = record { s_len_bound = search (filled_few, rules); texts_full = search rules }

pub returns : goal.returns
returns c = search (joins_filled, rules)
