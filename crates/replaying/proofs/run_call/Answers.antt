use Rattle.replaying.proofs.Laws.{front_of}
use Rattle.replaying.proofs.run_call.Goals as goal

pub slice_bounds-run_slice-end : goal.slice_bounds-run_slice-end
slice_bounds-run_slice-end g c = search front_of
