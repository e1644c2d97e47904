use Rattle.slots.proofs.Laws.{collect_start, collect_end, collect_none, collect_plain, collect_closes, collect_repeated, collect_few, collect_many, collect_shallow, collect_again, collect_done, clear_start, clear_again, checks}
use Prim.Native.Nat.{◌<◌}
use native.Mathlib.Omega.{arith}
use Rattle.token.proofs.Answers.{token_less}
use Rattle.slots.proofs.bad_slots.Goals as goal

pub loop-at-init : goal.loop-at-init
loop-at-init c = search (collect_start, clear_start)

pub returns-in-End : goal.returns-in-End
returns-in-End c = search (checks, collect_end)

pub returns-in-NoToken : goal.returns-in-NoToken
returns-in-NoToken c = search (checks, collect_none)

pub loop-at-smaller-then-plain : goal.loop-at-smaller-then-plain
loop-at-smaller-then-plain c = search token_less

pub loop-at-preserved-then-plain : goal.loop-at-preserved-then-plain
loop-at-preserved-then-plain c = search (collect_plain, clear_again)

pub returns-then-closes : goal.returns-then-closes
returns-then-closes c = search (checks, collect_closes)

pub returns-then-repeated : goal.returns-then-repeated
returns-then-repeated c = search (checks, collect_repeated)

pub add_slot-n-requires : goal.add_slot-n-requires
add_slot-n-requires c = search collect_few

pub returns-then-n-gt16 : goal.returns-then-n-gt16
returns-then-n-gt16 c = let m : 16 < c.add_slot-n.result = omega arith in search (checks, collect_many)

pub depth_after-depth-requires : goal.depth_after-depth-requires
depth_after-depth-requires c =
    let h : c.loop-at.at < 18446744073709551615 = omega arith in search (collect_shallow, c.loop-at.invariant.0)

pub loop-at-smaller : goal.loop-at-smaller
loop-at-smaller c = search token_less

pub loop-at-preserved : goal.loop-at-preserved
loop-at-preserved c =
    let i = c.loop-at.invariant in
    (search (collect_again, i.0), search (clear_again, i.1))

pub returns : goal.returns
returns c = search (checks, collect_done)
