use Rattle.mark.proofs.MarkLaws.{scan_start, scan_done, scan_visitable, scan_again}
use Rattle.mark.proofs.Work.visit_slots.Goals as goal

pub loop-i-init : goal.loop-i-init
loop-i-init c = search scan_start

pub visit-requires : goal.visit-requires
visit-requires c = search scan_visitable

pub loop-i-preserved : goal.loop-i-preserved
loop-i-preserved c = search scan_again

pub returns : goal.returns
returns c = search scan_done
