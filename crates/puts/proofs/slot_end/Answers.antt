use Rattle.puts.proofs.Laws.{end_past, end_free, end_found, end_room, end_full}
use Rattle.puts.proofs.slot_end.Goals as goal

pub returns-then-f-ge256 : goal.returns-then-f-ge256
returns-then-f-ge256 c = search end_past

pub returns-then-not-frame_used : goal.returns-then-not-frame_used
returns-then-not-frame_used c = search end_free

pub returns-then-is_some : goal.returns-then-is_some
returns-then-is_some c = search end_found

pub returns-then-slot_count-lt16 : goal.returns-then-slot_count-lt16
returns-then-slot_count-lt16 c = search end_room

pub returns : goal.returns
returns c = search end_full
