use Rattle.look_part.proofs.Laws.{text_literal, text_made}
use Rattle.look_part.proofs.text_part.Goals as goal

pub returns-in-Literal : goal.returns-in-Literal
returns-in-Literal c = search text_literal

pub returns-in-Made : goal.returns-in-Made
returns-in-Made c = search text_made
