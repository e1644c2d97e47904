use Rattle.words.specs.Words.{word}
use Rattle.operands.proofs.Numbers.{seek_start, seek_gone, seek_here, seek_again}
use Rattle.operands.proofs.slot_place.Goals as goal

pub loop-k-init : goal.loop-k-init
loop-k-init c = search seek_start

pub returns-then-h-k : goal.returns-then-h-k
unfolding word
returns-then-h-k c = search seek_here

pub loop-k-preserved : goal.loop-k-preserved
unfolding word
loop-k-preserved c = search seek_again

pub returns : goal.returns
returns c = search seek_gone
