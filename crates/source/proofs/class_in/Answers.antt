use borrow.Author.Rules.{rules}
use Rattle.source.proofs.class_in.Goals as goal

pub returns : goal.returns
returns c = c.requires.rule _ (search rules)
