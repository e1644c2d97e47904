use Rattle.words.proofs.Laws.{upto_start}
use Rattle.program_names.proofs.Laws.{same_end, same_differ, same_again, same_done}
use Rattle.program_names.proofs.same_bytes.Goals as goal

pub loop-i-init : goal.loop-i-init
loop-i-init c = search upto_start

pub returns-then-n-i : goal.returns-then-n-i
returns-then-n-i c = search same_end

pub returns-then-name_byte : goal.returns-then-name_byte
returns-then-name_byte c = search same_differ

pub loop-i-preserved : goal.loop-i-preserved
loop-i-preserved c =
    same_again _ _ _ _ _ _ c.name_byte.ensures c.name_byte-in-loop-i.ensures c.if-name_byte.false c.loop-i-test.true c.loop-i.invariant

pub returns : goal.returns
returns c = search same_done
