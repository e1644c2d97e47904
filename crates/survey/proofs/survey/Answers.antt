use borrow.Author.Rules.{rules}
use Rattle.reader.proofs.Laws.{read_less}
use Rattle.scan.proofs.Laws.{scan_store_end}
use Rattle.survey.proofs.Laws.{survey_start, survey_sizes, survey_cached, survey_few, survey_placed, survey_depth, survey_room, survey_done, survey_end, survey_none, survey_take, survey_again, stands_here}
use Rattle.survey.proofs.survey.Goals as goal

pub loop-at-init : goal.loop-at-init
loop-at-init c = search (survey_start, rules)

pub store_end-requires : goal.store_end-requires
store_end-requires c = search (scan_store_end, survey_cached)

pub shape_of-begins-in-End : goal.shape_of-begins-in-End
shape_of-begins-in-End c = search (rules, survey_sizes _ _ _ _ _ _ _ _ _ _ _ _ _ _ _ _ c.loop-at.invariant, c.requires.sized, c.requires.placed)

pub shape_of-ends-in-End : goal.shape_of-ends-in-End
shape_of-ends-in-End c = search (rules, survey_sizes _ _ _ _ _ _ _ _ _ _ _ _ _ _ _ _ c.loop-at.invariant, c.requires.sized, c.requires.placed)

pub shape_of-places-in-End : goal.shape_of-places-in-End
shape_of-places-in-End c = search (rules, survey_sizes _ _ _ _ _ _ _ _ _ _ _ _ _ _ _ _ c.loop-at.invariant, c.requires.sized, c.requires.placed)

pub returns-in-End : goal.returns-in-End
returns-in-End c = search (survey_end, rules)

pub shape_of-begins-in-NoToken : goal.shape_of-begins-in-NoToken
shape_of-begins-in-NoToken c = search (rules, survey_sizes _ _ _ _ _ _ _ _ _ _ _ _ _ _ _ _ c.loop-at.invariant, c.requires.sized, c.requires.placed)

pub shape_of-ends-in-NoToken : goal.shape_of-ends-in-NoToken
shape_of-ends-in-NoToken c = search (rules, survey_sizes _ _ _ _ _ _ _ _ _ _ _ _ _ _ _ _ c.loop-at.invariant, c.requires.sized, c.requires.placed)

pub shape_of-places-in-NoToken : goal.shape_of-places-in-NoToken
shape_of-places-in-NoToken c = search (rules, survey_sizes _ _ _ _ _ _ _ _ _ _ _ _ _ _ _ _ c.loop-at.invariant, c.requires.sized, c.requires.placed)

pub returns-in-NoToken : goal.returns-in-NoToken
returns-in-NoToken c = search (survey_none, rules)

pub take-j-requires : goal.take-j-requires
take-j-requires c = search survey_take

pub count_after-n-requires : goal.count_after-n-requires
count_after-n-requires c = search survey_few

pub keep-m-requires : goal.keep-m-requires
keep-m-requires c = survey_placed _ _ _ _ _ _ _ _ _ _ _ _ _ _ _ _ c.loop-at.invariant (search c.requires.short) (search c.loop-at-test.true)

pub depth_after-depth-requires : goal.depth_after-depth-requires
depth_after-depth-requires c = survey_depth _ _ _ _ _ _ _ _ _ _ _ _ _ _ _ _ c.loop-at.invariant (search c.requires.short) (search c.loop-at-test.true)

pub count-tally-requires : goal.count-tally-requires
count-tally-requires c = survey_room _ _ _ _ _ _ _ _ _ _ _ _ _ _ _ _ c.loop-at.invariant (search c.requires.short) (search c.loop-at-test.true)

pub loop-at-smaller : goal.loop-at-smaller
loop-at-smaller c = search (read_less, c.token_from-next.ensures, c.in-Token.is, c.loop-at-test.true)

pub loop-at-preserved : goal.loop-at-preserved
loop-at-preserved c =
    survey_again _ _ _ _ _ _ _ _ _ _ _ _ _ _ _ _ c.loop-at.invariant (search c.requires.short) (search c.loop-at-test.true)
    _ _ _ _ _ _ _ _ _ c.take-j.ensures.cached c.take-j.ensures.taken _ _ _ c.watch-clean.ensures _ c.count_after-n.ensures _ _ c.keep-m.ensures _ c.max-high.ensures _ c.depth_after-depth.ensures _ c.count-tally.ensures
    _ (search (stands_here, c.token_from-next.ensures, c.in-Token.is))

pub shape_of-begins : goal.shape_of-begins
shape_of-begins c = search (rules, survey_sizes _ _ _ _ _ _ _ _ _ _ _ _ _ _ _ _ c.loop-at.invariant, c.requires.sized, c.requires.placed)

pub shape_of-ends : goal.shape_of-ends
shape_of-ends c = search (rules, survey_sizes _ _ _ _ _ _ _ _ _ _ _ _ _ _ _ _ c.loop-at.invariant, c.requires.sized, c.requires.placed)

pub shape_of-places : goal.shape_of-places
shape_of-places c = search (rules, survey_sizes _ _ _ _ _ _ _ _ _ _ _ _ _ _ _ _ c.loop-at.invariant, c.requires.sized, c.requires.placed)

pub returns : goal.returns
returns c = search (survey_done, rules)
