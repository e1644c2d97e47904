use Rattle.write_program.proofs.Laws.{write_next, can_second}
use Rattle.write_program.proofs.Outside.{program_slots_outside, program_appended}
use Rattle.write_program.proofs.program_text.Goals as goal

pub frame_text-b-requires : goal.frame_text-b-requires
frame_text-b-requires c = record { can_write = search write_next; outside_slots = search program_slots_outside }

pub append-requires : goal.append-requires
append-requires c = search (can_second, c.append-a.ensures, c.frame_text-b.ensures.appended)

pub returns : goal.returns
returns c = search program_appended
