use Rattle.texts.proofs.Laws.{made_past, made_inside, made_here}
use Rattle.texts.proofs.made_bytes.Goals as goal

pub returns-then-k-ge256 : goal.returns-then-k-ge256
returns-then-k-ge256 c = search made_past

pub part-requires : goal.part-requires
part-requires c = search made_inside

pub returns : goal.returns
returns c = search made_here
