use Rattle.makers.proofs.Laws.{makers_means, closed_here, refused_exact, makers_fit, counted_exact}
use Rattle.makers.proofs.makers.Goals as goal

pub returns-then-not-well_formed : goal.returns-then-not-well_formed
returns-then-not-well_formed c = record { exact = search refused_exact; meaning = search (makers_means, refused_exact) }

pub count_reached-requires-clause-closed : goal.count_reached-requires-clause-closed
count_reached-requires-clause-closed c = search closed_here

pub count_reached-requires-clause-fit : goal.count_reached-requires-clause-fit
count_reached-requires-clause-fit c = search makers_fit

pub returns : goal.returns
returns c = record { exact = search counted_exact; meaning = search (makers_means, counted_exact) }
