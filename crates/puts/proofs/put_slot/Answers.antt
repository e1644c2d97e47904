use Rattle.puts.proofs.Laws.{put_adds, put_sets}
use Rattle.puts.proofs.put_slot.Goals as goal

pub returns-in-None : goal.returns-in-None
returns-in-None c = search put_adds

pub returns-in-Some : goal.returns-in-Some
returns-in-Some c = search put_sets
