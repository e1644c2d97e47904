use Rattle.paths.proofs.Exits.{passed_end, none_left, some_left, some_met, none_met}
use Rattle.step_join.proofs.Laws.{few, join_set, join_nowhere, join_full, join_put}
use borrow.Author.Rules.{rules}
use Rattle.step_join.proofs.put_join.Goals as goal

pub make_text-u-requires : goal.make_text-u-requires
make_text-u-requires c = record { s_len_bound = search few; texts_full = search rules }

pub returns-then-names-eq0 : goal.returns-then-names-eq0
returns-then-names-eq0 c = join_set _ _ _ _ _ _ c.requires.can_put_join _ _ _ c.instruction_kind-own.ensures c.instruction_a-j.ensures c.instruction_b-names.ensures c.if-names-eq0.true _ _ _ c.make_text-u.ensures _ c.set_root.ensures _ c.go_on.ensures

pub returns-in_err-at : goal.returns-in_err-at
returns-in_err-at c =
    let x = none_left _ _ c.from_residual.ensures.1 _ _ _ c.ok_or.ensures.value c.in_err-at.was in
    rw x.1 (search (join_nowhere, x.0))

pub returns-in_err-slot_end : goal.returns-in_err-slot_end
returns-in_err-slot_end c =
    let at = some_left _ _ _ _ c.ok_or.ensures.value c.in_ok-at.was in
    rw (passed_end _ _ c.from_residual-in_err-slot_end.ensures.1 _ c.in_err-slot_end.was)
    (search (join_full, at, some_met _ _ c.in_err-slot_end.was))

pub make_text-u-requires-2 : goal.make_text-u-requires-2
make_text-u-requires-2 c = record { s_len_bound = search few; texts_full = search rules }

pub returns : goal.returns
returns c = join_put _ _ _ _ _ _ c.requires.can_put_join _ _ _ c.instruction_kind-own.ensures c.instruction_a-j.ensures c.instruction_b-names.ensures c.if-names-eq0.false _ c.root.ensures _ c.put_target.ensures _ (some_left _ _ _ _ c.ok_or.ensures.value c.in_ok-at.was) _ c.slot_end.ensures (none_met _ _ c.in_ok-slot_end.was) _ _ _ c.make_text-u-2.ensures _ c.put_slot.ensures _ c.go_on-2.ensures
