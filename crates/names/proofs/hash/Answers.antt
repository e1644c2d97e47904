use Rattle.names.proofs.Laws.{hashing_start, hashing_again, hashing_done, hash_small}
use Rattle.names.proofs.hash.Goals as goal

pub loop-i-init : goal.loop-i-init
loop-i-init c = search hashing_start

pub loop-i-preserved : goal.loop-i-preserved
loop-i-preserved c = search hashing_again

pub returns : goal.returns
returns c = search (hashing_done, hash_small)
