use Rattle.look.proofs.Laws.{text_refused, text_answered, text_means, found_inside}
use Rattle.look.proofs.look_text.Goals as goal

pub returns-then-not-well_formed : goal.returns-then-not-well_formed
returns-then-not-well_formed c = record { exact = search text_refused; meaning = search (text_means, text_refused) }

pub part_bytes-requires : goal.part_bytes-requires
part_bytes-requires c = search found_inside

pub returns : goal.returns
returns c = record { exact = search text_answered; meaning = search (text_means, text_answered) }
