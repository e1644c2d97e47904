use Rattle.token_cache.proofs.Laws.{note_there}
use Rattle.token_cache.proofs.note.Goals as goal

pub returns : goal.returns
returns c = search note_there
