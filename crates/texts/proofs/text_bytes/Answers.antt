use Rattle.texts.proofs.Laws.{text_literal, text_made}
use Rattle.texts.proofs.text_bytes.Goals as goal

pub returns-in-Literal : goal.returns-in-Literal
returns-in-Literal c = search text_literal

pub returns-in-Made : goal.returns-in-Made
returns-in-Made c = search text_made
