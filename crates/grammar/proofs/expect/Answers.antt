use Rattle.grammar.proofs.Combine.{expect_none, expect_below, expect_above, expect_one}
use Rattle.grammar.proofs.expect.Goals as goal

pub returns-in_default : goal.returns-in_default
returns-in_default c = search expect_none

pub returns-then-k-lo : goal.returns-then-k-lo
returns-then-k-lo c = search expect_below

pub returns-then-hi-k : goal.returns-then-hi-k
returns-then-hi-k c = search expect_above

pub returns : goal.returns
returns c = search expect_one
