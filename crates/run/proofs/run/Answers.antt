use Rattle.run.proofs.Laws.{formed_here, refused_exact, refused_means, ran_exact, ran_means}
use Rattle.run.proofs.run.Goals as goal

pub returns-then-not-well_formed : goal.returns-then-not-well_formed
returns-then-not-well_formed c = record { exact = search refused_exact; meaning = search refused_means }

pub run_steps-requires : goal.run_steps-requires
run_steps-requires c = search (formed_here, c.well_formed-2.ensures)

pub returns : goal.returns
returns c = record { exact = search ran_exact; meaning = search ran_means }
