use Rattle.makers.proofs.Counts.{counted_for, count_there, count_fits}
use Rattle.makers.proofs.count_frame.Goals as goal

pub bounds-counts-n : goal.bounds-counts-n
bounds-counts-n c = search count_there

pub overflow_add-counts : goal.overflow_add-counts
overflow_add-counts c = search count_fits

pub bounds-counts-n-2 : goal.bounds-counts-n-2
bounds-counts-n-2 c = search count_there

pub returns : goal.returns
returns c = search counted_for
