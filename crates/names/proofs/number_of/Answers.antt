use Rattle.names.proofs.Numbers.{seek_start, seek_found, seek_again, seek_end}
use Rattle.names.proofs.number_of.Goals as goal

pub loop-k-init : goal.loop-k-init
loop-k-init c = search seek_start

pub returns-then-is_word : goal.returns-then-is_word
returns-then-is_word c = search seek_found

pub loop-k-preserved : goal.loop-k-preserved
loop-k-preserved c = search seek_again

pub returns : goal.returns
returns c = search seek_end
