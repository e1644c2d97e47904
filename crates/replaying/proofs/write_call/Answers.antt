use Rattle.replaying.proofs.Laws.{front_of}
use Rattle.replaying.proofs.write_call.Goals as goal

pub slice_bounds-write_slice-end : goal.slice_bounds-write_slice-end
slice_bounds-write_slice-end g c = search front_of
