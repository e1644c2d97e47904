use Rattle.write_words.proofs.Paths.{climbing_start, climbing_again, climbing_done}
use Rattle.write_words.proofs.append_climbs.Goals as goal

pub loop-i-init : goal.loop-i-init
loop-i-init c = search climbing_start

pub loop-i-preserved : goal.loop-i-preserved
loop-i-preserved c = search climbing_again

pub returns : goal.returns
returns c = search climbing_done
