use Rattle.strings.proofs.Laws.{keep_other, keep_string}
use Rattle.strings.proofs.keep.Goals as goal

pub returns-then-k-ne27 : goal.returns-then-k-ne27
returns-then-k-ne27 c = search keep_other

pub returns : goal.returns
returns c = search keep_string
