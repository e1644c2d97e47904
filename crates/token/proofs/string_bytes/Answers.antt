use Rattle.token.proofs.Laws.{no_quotes}
use Rattle.token.proofs.string_bytes.Goals as goal

pub returns-then-end-begin : goal.returns-then-end-begin
returns-then-end-begin c = search no_quotes
