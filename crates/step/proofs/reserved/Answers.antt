use mathlib.Core.Path.{◌∙◌, sym}
use Rattle.step_parts.proofs.Ends.{can_reserve}
use Rattle.step_parts.proofs.Laws.{words_fit}
use Rattle.step.proofs.Ready.{ready_step, full_ended, full_knows, ready_can, ready_form, ready_room, ready_attempts, ready_quietly}
use Rattle.step.proofs.reserved.Goals as goal

pub reserve_for-s-requires : goal.reserve_for-s-requires
reserve_for-s-requires c = record { can_reserve = search can_reserve; knows_2 = c.requires.knows_2 }

pub returns-in-Err : goal.returns-in-Err
returns-in-Err c = record { exact = search (full_ended, words_fit {h = c.set_end_mark.new.h} c.type_inv.h); knows = search full_knows }

pub joined-requires : goal.joined-requires
joined-requires c = record { can_step = search ready_step; i_value = sym c.joins.ensures ∙ c.if-joins.true; room_for = search ready_room }

pub returns-then-joins : goal.returns-then-joins
returns-then-joins c = record { exact = search ready_quietly; knows = c.joined.ensures.knows }

pub in_parts-requires : goal.in_parts-requires
in_parts-requires c = record { can_attempt = search ready_can; assigns_or_shows = search ready_form; room_for = search ready_room }

pub returns : goal.returns
returns c = record { exact = search (ready_attempts, c.requires.can_attempt, c.reserve_for-s.ensures.exact, c.in_default.not-Err, c.in_parts.ensures.exact); knows = c.in_parts.ensures.knows }
