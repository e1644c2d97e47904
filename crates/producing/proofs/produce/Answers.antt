use Rattle.producing.proofs.Laws.{comparable_from, can_join, produce_integer, produce_joined, produce_ended}
use borrow.Author.Rules.{rules}
use Rattle.producing.proofs.produce.Goals as goal

pub operate-requires : goal.operate-requires
operate-requires c = search comparable_from

pub join-requires : goal.join-requires
join-requires c = record { can_join = can_join _ _ _ _ _ _ _ c.requires.can_produce _ c.operate.ensures (rw c.in-Ok-Joined.field-0-is at c.in-Ok-Joined.is); texts_full = search rules }

pub returns-in-Ok-Integer : goal.returns-in-Ok-Integer
returns-in-Ok-Integer c = produce_integer _ _ _ _ _ _ _ c.requires.can_produce _ c.operate.ensures _ _ (rw c.in-Ok-Integer.field-0-is at c.in-Ok-Integer.is) (search rules)

pub returns-in-Ok-Joined : goal.returns-in-Ok-Joined
returns-in-Ok-Joined c = let is = rw c.in-Ok-Joined.field-0-is at c.in-Ok-Joined.is in search (produce_joined, is)

pub returns-in-Err : goal.returns-in-Err
returns-in-Err c = search produce_ended
