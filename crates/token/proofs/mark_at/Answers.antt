use Rattle.token.proofs.Laws.{assign_mark, colon_mark, equal_mark, and_mark, or_mark, no_mark, one_mark}
use Rattle.token.proofs.mark_at.Goals as goal

pub returns-then-d-eq61 : goal.returns-then-d-eq61
returns-then-d-eq61 c = search assign_mark

pub returns-then-b-eq58 : goal.returns-then-b-eq58
returns-then-b-eq58 c = search colon_mark

pub returns-then-b-eq61 : goal.returns-then-b-eq61
returns-then-b-eq61 c = search equal_mark

pub returns-then-b-eq38 : goal.returns-then-b-eq38
returns-then-b-eq38 c = search and_mark

pub returns-then-b-eq124 : goal.returns-then-b-eq124
returns-then-b-eq124 c = search or_mark

pub returns-then-k-gt28 : goal.returns-then-k-gt28
returns-then-k-gt28 c = search no_mark

pub returns : goal.returns
returns c = search one_mark
