use Rattle.spaces.proofs.Laws.{skip_space, skip_no_slash, skip_one_slash, skip_slashes}
use Rattle.spaces.proofs.skip_one.Goals as goal

pub returns-then-k-eq1 : goal.returns-then-k-eq1
returns-then-k-eq1 c = search skip_space

pub returns-then-b-ne47 : goal.returns-then-b-ne47
returns-then-b-ne47 c = search skip_no_slash

pub returns-then-d-ne47 : goal.returns-then-d-ne47
returns-then-d-ne47 c = search skip_one_slash

pub returns : goal.returns
returns c = search skip_slashes
