use Rattle.program_equality.proofs.Loops.{codes_same, first_places, codes_compared}
use Rattle.program_equality.proofs.same_codes.Goals as goal

pub returns-then-k-m : goal.returns-then-k-m
returns-then-k-m c = search codes_same

pub same_list-requires : goal.same_list-requires
same_list-requires c = search first_places

pub returns : goal.returns
returns c = search codes_compared
