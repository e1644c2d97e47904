use Rattle.write_words.proofs.Laws.{can_append}
use Rattle.write_program.proofs.Loops.{head_name, head_appended}
use Rattle.write_program.proofs.slot_head.Goals as goal

pub append_name-b-requires : goal.append_name-b-requires
append_name-b-requires c = (search head_name, search can_append)

pub append-requires : goal.append-requires
append-requires c =
    search (can_append, c.append_name-b.ensures, can_append c.requires.can_append c.slot_lead-a.ensures)

pub returns : goal.returns
returns c = search head_appended
