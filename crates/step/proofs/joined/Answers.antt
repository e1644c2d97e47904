use Rattle.step_parts.proofs.Laws.{words_fit}
use Rattle.step_parts.proofs.Room.{room_texts}
use Rattle.step.proofs.Join.{can_assign, join_ended, join_ended_knows, join_made, join_made_knows}
use Rattle.step.proofs.joined.Goals as goal

pub assign_join-requires : goal.assign_join-requires
assign_join-requires c = record { can_assign_join = search can_assign; texts_full = search room_texts }

pub returns-in-Err : goal.returns-in-Err
returns-in-Err c = record { exact = search (join_ended, words_fit {h = c.set_end_mark.new.h} c.type_inv.h); knows = search join_ended_knows }

pub returns : goal.returns
returns c = record { exact = search (join_made, words_fit {h = c.assign_join.new.h} c.type_inv.h); knows = join_made_knows _ _ _ _ _ c.requires.can_step _ c.requires.room_for c.requires.i_value _ _ _ c.assign_join.ensures _ c.in_default.is }
