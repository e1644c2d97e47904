use Rattle.printing.proofs.Laws.{front_all, front_size}
use Rattle.printing.proofs.front.Goals as goal

pub returns-then-m-n : goal.returns-then-m-n
returns-then-m-n c = search front_all

pub slice_bounds-result-end : goal.slice_bounds-result-end
slice_bounds-result-end c = search front_size
