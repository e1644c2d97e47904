use Rattle.reserving.proofs.Laws.{text_given, text_lowest}
use Rattle.reserving.proofs.lowest_text_for.Goals as goal

pub returns-then-t-eq0 : goal.returns-then-t-eq0
returns-then-t-eq0 c = search text_given

pub returns : goal.returns
returns c = search text_lowest
