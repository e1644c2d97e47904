use Rattle.words.specs.Words.{word}
use Rattle.words.proofs.Laws.{word_past}
use borrow.Author.Rules.{rules}
use Rattle.names.proofs.place.Goals as goal

pub returns-then-k-m : goal.returns-then-k-m
unfolding word
returns-then-k-m c = search rules

pub returns : goal.returns
returns c = search word_past
