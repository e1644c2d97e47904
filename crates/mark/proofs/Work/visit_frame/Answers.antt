use Rattle.mark.proofs.MarkLaws.{frame_room, frame_scaled, frame_one_more}
use Rattle.mark.proofs.Work.visit_frame.Goals as goal

pub offset_bounds-self-self : goal.offset_bounds-self-self
offset_bounds-self-self c = search frame_scaled

pub bounds-self-self : goal.bounds-self-self
bounds-self-self c = search frame_room

pub overflow_add-self : goal.overflow_add-self
overflow_add-self c = search frame_one_more
