use Rattle.token_cache.proofs.Laws.{set_far, set_long, set_large, set_small, set_here}
use Rattle.token_cache.proofs.set_entry.Goals as goal

pub returns-then-at-ge16384 : goal.returns-then-at-ge16384
returns-then-at-ge16384 c = search set_far

pub returns-then-p-ge32768 : goal.returns-then-p-ge32768
returns-then-p-ge32768 c = search set_long

pub returns-then-x-ge536870912 : goal.returns-then-x-ge536870912
returns-then-x-ge536870912 c = search set_large

pub pack-requires : goal.pack-requires
pack-requires c = search set_small

pub returns : goal.returns
returns c = search set_here
