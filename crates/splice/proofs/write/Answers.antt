use Rattle.splice.proofs.Laws.{write_past, front_size, front_fits, write_front}
use Rattle.splice.proofs.write.Goals as goal

pub returns-then-m-at : goal.returns-then-m-at
returns-then-m-at c = search write_past

pub slice_bounds-copy-end : goal.slice_bounds-copy-end
slice_bounds-copy-end c = search front_size

pub copy-requires-else-s-space : goal.copy-requires-else-s-space
copy-requires-else-s-space c = search front_fits

pub returns-else-s-space : goal.returns-else-s-space
returns-else-s-space c = search write_front
