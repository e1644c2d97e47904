use Rattle.look_names.proofs.Laws.{lengths_apart, comparing_start, comparing_apart, comparing_again, comparing_done}
use Rattle.look_names.proofs.is_name.Goals as goal

pub returns-then-wide-w : goal.returns-then-wide-w
returns-then-wide-w c = search lengths_apart

pub loop-i-init : goal.loop-i-init
loop-i-init c = search comparing_start

pub returns-then-name_byte-b : goal.returns-then-name_byte-b
returns-then-name_byte-b c = search comparing_apart

pub loop-i-preserved : goal.loop-i-preserved
loop-i-preserved c = search (comparing_again, c.if-name_byte-b.false, c.loop-i.invariant)

pub returns : goal.returns
returns c = search comparing_done
