use Rattle.texts.proofs.Laws.{size_literal, size_no_literal, size_made, size_no_made}
use Rattle.texts.proofs.text_size.Goals as goal

pub returns-then-k-literals : goal.returns-then-k-literals
returns-then-k-literals c = search size_literal

pub returns-then-k-lt256 : goal.returns-then-k-lt256
returns-then-k-lt256 c = search size_made

pub returns-else-k-literals : goal.returns-else-k-literals
returns-else-k-literals c = search size_no_literal

pub returns-else-k-lt256 : goal.returns-else-k-lt256
returns-else-k-lt256 c = search size_no_made
