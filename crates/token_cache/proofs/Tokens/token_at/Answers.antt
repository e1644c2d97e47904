use Rattle.words.specs.Words.{word}
use Rattle.token_cache.proofs.Laws.{entry, entry_end}
use Rattle.token_cache.proofs.Tokens.token_at.Goals as goal

pub returns-then-e-gt31 : goal.returns-then-e-gt31
unfolding word
returns-then-e-gt31 c = search entry

pub returns-then-e-eq31 : goal.returns-then-e-eq31
unfolding word
returns-then-e-eq31 c = search entry_end
