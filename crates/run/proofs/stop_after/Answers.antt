use Rattle.run.proofs.Laws.{after_ended, after_space, after_made}
use Rattle.run.proofs.stop_after.Goals as goal

pub returns-in-Ended : goal.returns-in-Ended
returns-in-Ended c = search after_ended

pub returns-in-NoSpace : goal.returns-in-NoSpace
returns-in-NoSpace c = search after_space

pub returns-in-Made : goal.returns-in-Made
returns-in-Made c = search after_made
