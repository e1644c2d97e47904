use Rattle.texts.proofs.Laws.{literal_past, literal_inside, literal_here}
use Rattle.texts.proofs.literal_bytes.Goals as goal

pub returns-then-literals-k : goal.returns-then-literals-k
returns-then-literals-k c = search literal_past

pub part-requires : goal.part-requires
part-requires c = search literal_inside

pub returns : goal.returns
returns c = search literal_here
