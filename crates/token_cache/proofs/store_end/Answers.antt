use Rattle.words.specs.Words.{set_word}
use Rattle.token_cache.proofs.Laws.{end_far, stored_end, end_notes, notes_same}
use borrow.Author.Rules.{rules}
use Rattle.token_cache.proofs.store_end.Goals as goal

pub returns-then-at-ge16384 : goal.returns-then-at-ge16384
returns-then-at-ge16384 c = record { entry = search end_far; cached = search rules; notes = search notes_same }

pub returns : goal.returns
unfolding set_word
returns c = record { entry = search rules; cached = search stored_end; notes = search end_notes }
