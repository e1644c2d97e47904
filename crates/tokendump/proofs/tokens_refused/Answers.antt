use Rattle.token_cache.proofs.Laws.{fresh, fresh_unnoted}
use borrow.Author.Rules.{rules}
use Rattle.tokendump.proofs.tokens_refused.Goals as goal

pub survey-found-requires : goal.survey-found-requires
survey-found-requires c = record { short = record { short = search rules }; cached = search fresh; unnoted = search fresh_unnoted; sized = search rules; placed = search rules }
