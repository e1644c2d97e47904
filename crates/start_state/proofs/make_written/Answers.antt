use Rattle.start_state.proofs.Laws.{written_can_fill, written_makes}
use Rattle.allocation.proofs.Laws.{none_below, none_full}
use Rattle.start_state.proofs.make_written.Goals as goal

pub claim-f-requires : goal.claim-f-requires
claim-f-requires c = search none_below

pub fill-requires : goal.fill-requires
fill-requires c = record { can_fill = search written_can_fill; full = search none_full }

pub returns : goal.returns
returns c = search written_makes
