use Rattle.token_cache.specs.Cache.{held}
use borrow.Author.Rules.{rules}
use Rattle.token_cache.proofs.unpack.Goals as goal

pub returns : goal.returns
unfolding held
returns c = search rules
