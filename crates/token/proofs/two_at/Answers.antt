use Rattle.token.proofs.Laws.{two_no, two_yes}
use Rattle.token.proofs.two_at.Goals as goal

pub returns-then-follows-second : goal.returns-then-follows-second
returns-then-follows-second c = search two_no

pub returns : goal.returns
returns c = search two_yes
