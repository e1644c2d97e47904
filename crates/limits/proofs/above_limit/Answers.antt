use Rattle.limits.proofs.Laws.{limit_1, limit_2, limit_3, limit_4, limit_5, limit_6}
use Rattle.limits.proofs.above_limit.Goals as goal

pub returns-then-names-gt128 : goal.returns-then-names-gt128
returns-then-names-gt128 c = search limit_1

pub returns-then-t-gt512 : goal.returns-then-t-gt512
returns-then-t-gt512 c = search limit_2

pub returns-then-t-gt128 : goal.returns-then-t-gt128
returns-then-t-gt128 c = search limit_3

pub returns-then-t-gt128-2 : goal.returns-then-t-gt128-2
returns-then-t-gt128-2 c = search limit_4

pub returns-then-t-gt1024 : goal.returns-then-t-gt1024
returns-then-t-gt1024 c = search limit_5

pub returns : goal.returns
returns c = search limit_6
