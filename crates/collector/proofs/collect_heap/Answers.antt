use Rattle.collector.proofs.Means.{collect_is, collect_means}
use Rattle.collector.proofs.collect_heap.Goals as goal

pub returns : goal.returns
returns c = record { exact = search collect_is; means = search collect_means }
