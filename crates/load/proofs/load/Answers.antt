use mathlib.Core.Path.{◌∙◌}
use Rattle.token_cache.proofs.Laws.{fresh, fresh_unnoted}
use Rattle.load.proofs.Laws.{loaded_kept, load_can_install, refused_exact, refused_means, loaded_exact, loaded_means}
use borrow.Author.Rules.{rules}
use Rattle.load.proofs.load.Goals as goal

pub check-checked-requires : goal.check-checked-requires
check-checked-requires c = record { cached = search fresh; unnoted = search fresh_unnoted; sized = search rules; placed = search rules }

pub returns-in_default : goal.returns-in_default
returns-in_default c = record { exact = refused_exact _ _ _ _ _ _ _ c.answer-answer.result (c.answer-answer.ensures ∙ c.check-checked.ensures.number) c.in_default.not-Loaded; meaning = refused_means _ _ _ _ _ _ _ c.answer-answer.result (c.answer-answer.ensures ∙ c.check-checked.ensures.number) c.in_default.not-Loaded }

pub install-requires : goal.install-requires
install-requires c =
    record {
      cached = search rules;
      kept = loaded_kept _ _ _ _ _ _ _ _ _ c.answer-answer.ensures c.check-checked.ensures.kept c.in-Loaded.is;
      can = load_can_install _ _ _ _ _ _ _ c.answer-answer.result (c.answer-answer.ensures ∙ c.check-checked.ensures.number) c.in-Loaded.is;
    }

pub returns : goal.returns
returns c = record { exact = loaded_exact _ _ _ _ _ _ _ c.answer-answer.result (c.answer-answer.ensures ∙ c.check-checked.ensures.number) c.in-Loaded.is _ _ _ _ c.install.ensures; meaning = loaded_means _ _ _ _ _ _ _ c.answer-answer.result (c.answer-answer.ensures ∙ c.check-checked.ensures.number) c.in-Loaded.is _ _ _ _ c.install.ensures }
