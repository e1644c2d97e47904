use Rattle.commit.proofs.Laws.{put_nowhere, put_somewhere}
use Rattle.commit.proofs.put.Goals as goal

pub returns-in_default : goal.returns-in_default
returns-in_default c = search put_nowhere

pub returns-in-Some : goal.returns-in-Some
returns-in-Some c = search put_somewhere
