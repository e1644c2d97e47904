use Rattle.token_cache.specs.Cache.{packed}
use borrow.Author.Rules.{rules}
use Rattle.token_cache.proofs.pack.Goals as goal

pub returns : goal.returns
unfolding packed
returns c = search rules
