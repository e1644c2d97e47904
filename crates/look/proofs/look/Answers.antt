use Rattle.look.proofs.Laws.{look_refused, look_answered, look_means}
use Rattle.look.proofs.look.Goals as goal

pub returns-then-not-well_formed : goal.returns-then-not-well_formed
returns-then-not-well_formed c = record { exact = search look_refused; meaning = search (look_means, look_refused) }

pub returns : goal.returns
returns c = record { exact = search look_answered; meaning = search (look_means, look_answered) }
