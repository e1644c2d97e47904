use Rattle.look_part.proofs.Laws.{found_nothing, found_other, found_text}
use Rattle.look_part.proofs.part_found.Goals as goal

pub returns-in_default : goal.returns-in_default
returns-in_default c = search found_nothing

pub returns-in_default-v : goal.returns-in_default-v
returns-in_default-v c = search found_other

pub returns : goal.returns
returns c = search found_text
