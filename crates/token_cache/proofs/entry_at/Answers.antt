use Rattle.words.specs.Words.{word}
use Rattle.words.proofs.Laws.{word_past}
use borrow.Author.Rules.{rules}
use Rattle.token_cache.proofs.entry_at.Goals as goal

pub returns-then-at-c : goal.returns-then-at-c
unfolding word
returns-then-at-c c = search rules

pub returns : goal.returns
returns c = search word_past
