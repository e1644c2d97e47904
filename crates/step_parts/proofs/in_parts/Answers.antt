use Rattle.paths.proofs.Exits.{none_met}
use Rattle.step_parts.proofs.Numbers.{number_met, number_positive}
use Rattle.step_parts.proofs.Laws.{words_fit, attempt_shows}
use Rattle.step_parts.proofs.Room.{room_knows, room_full, room_checks, room_commits, ended_then_knows, made_then_knows, parts_ended, parts_no_space, parts_made}
use borrow.Author.Rules.{rules}
use Rattle.step_parts.proofs.in_parts.Goals as goal

pub check-requires : goal.check-requires
check-requires c = search room_checks

pub returns-in-Err : goal.returns-in-Err
returns-in-Err c =
    let e = number_met _ _ _ _ c.in-Err.is c.end_number-e.ensures c.check.ensures in
    let some = number_positive _ _ c.end_number-e.ensures in
    record { exact = search (parts_ended, e, some, words_fit {h = c.set_end_mark.new.h} c.type_inv.h); knows = search (ended_then_knows, e, some) }

pub show-requires : goal.show-requires
show-requires c = search attempt_shows

pub returns-in_default-show : goal.returns-in_default-show
returns-in_default-show c = record { exact = parts_no_space _ _ _ _ _ _ _ c.requires.can_attempt _ c.requires.room_for _ c.check.ensures (none_met _ _ c.in_default.is) _ _ c.show.ensures (search rules) (search words_fit); knows = search room_knows }

pub commit-requires : goal.commit-requires
commit-requires c = record { can_commit = search room_commits; full = search room_full }

pub returns : goal.returns
returns c =
    let z = none_met _ _ c.in_default.is in
    record { exact = search (parts_made, z, words_fit {h = c.commit.new.h} c.type_inv.h); knows = search (made_then_knows, z) }
