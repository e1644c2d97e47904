use native.Mathlib.Omega.{arith}
use Rattle.joining.proofs.Laws.{front_size}
use Rattle.step_join.proofs.Laws.{long_ended, can_put}
use borrow.Author.Rules.{rules}
use Rattle.step_join.proofs.join_values.Goals as goal

pub returns-then-n-gt64 : goal.returns-then-n-gt64
returns-then-n-gt64 c = search long_ended

pub slice_bounds-put_join-end : goal.slice_bounds-put_join-end
slice_bounds-put_join-end c = front_size _ _ (omega arith) (search rules)

pub put_join-requires : goal.put_join-requires
put_join-requires c =
    record {
      can_put_join = can_put _ _ _ _ _ _ _ (search rules) _ c.fill_join-n.ensures.size (omega arith) _ _ (search rules) c.fill_join-n.ensures.bytes;
      texts_full = search rules;
    }
