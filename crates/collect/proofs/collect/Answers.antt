use Rattle.collect.proofs.Laws.{closed_here, refused_exact, refused_means, collected_exact, collected_means}
use Rattle.collect.proofs.collect.Goals as goal

pub returns-then-not-well_formed : goal.returns-then-not-well_formed
returns-then-not-well_formed c = record { exact = search refused_exact; meaning = search refused_means }

pub collect_heap-totals-requires : goal.collect_heap-totals-requires
collect_heap-totals-requires c = search closed_here

pub returns : goal.returns
returns c = record { exact = search collected_exact; meaning = search collected_means }
