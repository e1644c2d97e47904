use Rattle.mark.proofs.MarkLaws.{queue_start, queue_done, queue_below, queue_scaled, queue_one_more, queue_falls, queue_scans, queue_again}
use Rattle.mark.proofs.Work.mark_queue.Goals as goal

pub loop-k-init : goal.loop-k-init
loop-k-init c = search queue_start

pub offset_bounds-self-k : goal.offset_bounds-self-k
offset_bounds-self-k c = search queue_scaled

pub bounds-self-k : goal.bounds-self-k
bounds-self-k c = search queue_below

pub visit_slots-requires : goal.visit_slots-requires
visit_slots-requires c = search queue_scans

pub overflow_add-k : goal.overflow_add-k
overflow_add-k c = search queue_one_more

pub loop-k-smaller : goal.loop-k-smaller
loop-k-smaller c = search queue_falls

pub loop-k-preserved : goal.loop-k-preserved
loop-k-preserved c = search queue_again

pub returns : goal.returns
returns c = search queue_done
