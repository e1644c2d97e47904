use Rattle.token.proofs.Laws.{string_long, string_open, string_fits}
use Rattle.token.proofs.string_at.Goals as goal

pub returns-then-q-ne34 : goal.returns-then-q-ne34
returns-then-q-ne34 c = search string_open

pub returns-then-p-i-le64 : goal.returns-then-p-i-le64
returns-then-p-i-le64 c = search string_fits

pub returns : goal.returns
returns c = search string_long
