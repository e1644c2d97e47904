use Rattle.std.proofs.Common.{◌≡◌, true, false, arith, rules, tests}
use Rattle.std.proofs.lemmas.Iterator.{first_from_Range}
use Rattle.heap.specs.Words.{frame_used}
use Rattle.allocation.specs.Allocation.{next_frame}
use Rattle.allocation.proofs.Laws.{lowest_found, frames_full}
use Rattle.allocation.proofs.lowest_frame.Goals as goal

pub returns : goal.returns
unfolding next_frame
returns c =
    rw c.unwrap_or.ensures
    (lowest_found (frame_used c.args.h.now) _ _ (frames_full _ _ c.requires)
    (first_from_Range _ _ _ _ (λ k. frame_used c.args.h.now k ≡ false) (λ k. frame_used c.args.h.now k ≡ true) c.find.ensures.ran (λ x q k. grind (arith, tests)) (λ x q k. (search rules, grind (arith, tests)))))
