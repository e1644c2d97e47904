use Rattle.script.proofs.Laws.{write_space_fits, write_space_unfit}
use Rattle.script.proofs.write_space_for.Goals as goal

pub returns-then-n-le32768 : goal.returns-then-n-le32768
returns-then-n-le32768 c = search write_space_fits

pub returns : goal.returns
returns c = search write_space_unfit
