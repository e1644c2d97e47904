use Rattle.makers.proofs.Counts.{fit_marks, below_marks}
use Rattle.makers.proofs.count_reached.Goals as goal

pub count_marked-requires : goal.count_marked-requires
count_marked-requires c = search fit_marks

pub returns : goal.returns
returns c = search below_marks
