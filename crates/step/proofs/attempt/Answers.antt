use Rattle.step_parts.proofs.Laws.{words_fit}
use Rattle.step.proofs.OneGo.{can_do, direct_made, made_knows_still, direct_ended, ended_knows_still, left_can, left_why, left_knows, left_attempts}
use Rattle.step.proofs.attempt.Goals as goal

pub direct-requires : goal.direct-requires
direct-requires c = search can_do

pub returns-in-Ok-Made : goal.returns-in-Ok-Made
returns-in-Ok-Made c =
    let is = rw c.in-Ok-Made.field-0-is at c.in-Ok-Made.is in
    record { exact = search (direct_made, is, words_fit {h = c.direct.new.h} c.type_inv.h); knows = search (made_knows_still, is) }

pub reserved-requires : goal.reserved-requires
reserved-requires c =
    let is = rw c.in-Ok-Left.field-0-is at c.in-Ok-Left.is in
    record { can_attempt = search (left_can, c.requires.can_attempt, c.requires.knows_2, c.direct.ensures, is); makes_or_shows = search (left_why, is); knows_2 = search (left_knows, is) }

pub returns-in-Ok-Left : goal.returns-in-Ok-Left
returns-in-Ok-Left c =
    let is = rw c.in-Ok-Left.field-0-is at c.in-Ok-Left.is in
    record { exact = search (left_attempts, is); knows = c.reserved.ensures.knows }

pub returns-in-Err : goal.returns-in-Err
returns-in-Err c = record {
  exact = direct_ended _ _ _ _ _ _ _ c.requires.can_attempt _ c.requires.knows_2 _ _ c.direct.ensures _ c.in-Err.is _ c.end_number-met.ensures _ c.set_end_mark.ensures (words_fit c.type_inv.h);
  knows = ended_knows_still _ _ _ _ _ _ _ c.requires.can_attempt _ c.requires.knows_2 _ _ c.direct.ensures _ c.in-Err.is _ c.end_number-met.ensures _ c.set_end_mark.ensures;
}
