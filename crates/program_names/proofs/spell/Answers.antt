use Rattle.program_names.proofs.Keys.{spelling_start, spelling_again, plain_end, plain_done, spelled_end, spelled_done}
use Rattle.program_names.proofs.spell.Goals as goal

pub loop-i-init : goal.loop-i-init
loop-i-init c = search spelling_start

pub returns-then-n-i : goal.returns-then-n-i
returns-then-n-i c = record { plain = search plain_end; key = search spelled_end }

pub loop-i-preserved : goal.loop-i-preserved
loop-i-preserved c = search spelling_again

pub returns : goal.returns
returns c = record { plain = search plain_done; key = search spelled_done }
