use Rattle.emit_names.proofs.Laws.{listing_start, listing_again, listing_done}
use Rattle.emit_names.proofs.write_names.Goals as goal

pub loop-k-init : goal.loop-k-init
loop-k-init c = search listing_start

pub loop-k-preserved : goal.loop-k-preserved
loop-k-preserved c = search listing_again

pub returns : goal.returns
returns c = search listing_done
