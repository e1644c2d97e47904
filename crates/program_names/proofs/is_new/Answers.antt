use Rattle.program_names.proofs.Keys.{new_far, new_key, new_compared}
use Rattle.program_names.proofs.is_new.Goals as goal

pub returns-then-k-gt128 : goal.returns-then-k-gt128
returns-then-k-gt128 c = search new_far

pub returns-then-other_keys : goal.returns-then-other_keys
returns-then-other_keys c = search new_key

pub returns : goal.returns
returns c = search new_compared
