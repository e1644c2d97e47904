use Rattle.emit_literals.proofs.Laws.{literal_none, literal_word, literal_short, literal_one}
use Rattle.emit_literals.proofs.write_literal.Goals as goal

pub returns-in_default : goal.returns-in_default
returns-in_default c = search literal_none

pub overflow_cast-w : goal.overflow_cast-w
overflow_cast-w c = search literal_word

pub write_bytes-requires : goal.write_bytes-requires
write_bytes-requires c = search literal_short

pub returns : goal.returns
returns c = search literal_one
