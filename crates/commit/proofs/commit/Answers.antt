use Rattle.commit.proofs.Laws.{commit_shows, commit_can_assign, commit_assigned}
use borrow.Author.Rules.{rules}
use Rattle.commit.proofs.commit.Goals as goal

pub returns-then-kind-ge2 : goal.returns-then-kind-ge2
returns-then-kind-ge2 c = search commit_shows

pub assign-requires : goal.assign-requires
assign-requires c = record { can_evaluate = search commit_can_assign; full = search rules }

pub returns : goal.returns
returns c = search commit_assigned
