use Rattle.text_form.proofs.Laws.{text_long, text_short}
use Rattle.text_form.proofs.text_formed.Goals as goal

pub returns-then-n-gt64 : goal.returns-then-n-gt64
returns-then-n-gt64 c = search text_long

pub returns : goal.returns
returns c = search text_short
