use Rattle.frames.proofs.Laws.{has_start, has_inside, has_found, has_again, has_none}
use Prim.Native.Nat.{◌+◌, ◌-◌, ◌<◌}
use borrow.Author.Rules.{rules}
use Rattle.frames.proofs.has_name.Goals as goal

pub loop-k-init : goal.loop-k-init
loop-k-init c = search has_start

pub overflow_add-from : goal.overflow_add-from
overflow_add-from c = let l : c.args.from + (c.loop-k.k - 1) < 306 = search has_inside in search rules

pub offset_bounds-own-from : goal.offset_bounds-own-from
offset_bounds-own-from c = let l : c.args.from + (c.loop-k.k - 1) < 306 = search has_inside in search rules

pub bounds-own-from : goal.bounds-own-from
bounds-own-from c = search has_inside

pub returns-then-own-from : goal.returns-then-own-from
returns-then-own-from c = search has_found

pub loop-k-preserved : goal.loop-k-preserved
loop-k-preserved c = search has_again

pub returns : goal.returns
returns c = search has_none
