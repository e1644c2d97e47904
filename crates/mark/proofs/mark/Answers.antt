use Rattle.mark.proofs.MarkLaws.{blank_ok, started_ok, mark_done}
use Rattle.mark.proofs.ReachLaws.{mark_means}
use Rattle.mark.proofs.mark.Goals as goal

pub mark_roots-requires : goal.mark_roots-requires
mark_roots-requires c = search blank_ok

pub mark_queue-requires : goal.mark_queue-requires
mark_queue-requires c = search started_ok

pub returns : goal.returns
returns c = record { exact = search mark_done; means = search mark_means }
