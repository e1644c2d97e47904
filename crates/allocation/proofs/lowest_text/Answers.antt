use Rattle.std.proofs.Common.{◌≡◌, true, false, arith, rules, tests}
use Rattle.std.proofs.lemmas.Iterator.{first_from_Range}
use Rattle.heap.specs.Words.{text_used}
use Rattle.allocation.specs.Allocation.{next_text}
use Rattle.allocation.proofs.Laws.{lowest_found, texts_full}
use Rattle.allocation.proofs.lowest_text.Goals as goal

pub returns : goal.returns
unfolding next_text
returns c =
    rw c.unwrap_or.ensures
    (lowest_found (text_used c.args.h.now) _ _ (texts_full _ _ c.requires)
    (first_from_Range _ _ _ _ (λ k. text_used c.args.h.now k ≡ false) (λ k. text_used c.args.h.now k ≡ true) c.find.ensures.ran (λ x q k. grind (arith, tests)) (λ x q k. (search rules, grind (arith, tests)))))
