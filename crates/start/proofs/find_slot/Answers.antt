use Rattle.start.proofs.Laws.{find_start, find_end, find_none, find_closes, find_found, find_shallow, find_again, find_done}
use Rattle.token.proofs.Answers.{token_less}
use borrow.Author.Rules.{rules}
use Rattle.start.proofs.find_slot.Goals as goal

pub loop-at-init : goal.loop-at-init
loop-at-init c = search find_start

pub returns-in-End : goal.returns-in-End
returns-in-End c = search find_end

pub returns-in-NoToken : goal.returns-in-NoToken
returns-in-NoToken c = search find_none

pub returns-then-closes : goal.returns-then-closes
returns-then-closes c = search find_closes

pub returns-then-is_slot : goal.returns-then-is_slot
returns-then-is_slot c = search find_found

pub depth_after-depth-requires : goal.depth_after-depth-requires
depth_after-depth-requires c = search (find_shallow, rules)

pub loop-at-smaller : goal.loop-at-smaller
loop-at-smaller c = search token_less

pub loop-at-preserved : goal.loop-at-preserved
loop-at-preserved c = search find_again

pub returns : goal.returns
returns c = search find_done
