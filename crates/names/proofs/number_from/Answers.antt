use Rattle.names.proofs.Numbers.{number_there, number_part}
use Rattle.names.proofs.number_from.Goals as goal

pub returns-then-same_parts : goal.returns-then-same_parts
returns-then-same_parts c = search number_there

pub returns : goal.returns
returns c = search number_part
