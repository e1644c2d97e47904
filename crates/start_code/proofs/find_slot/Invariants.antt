use Rattle.start_code.proofs.Laws.{Finding}
use Rattle.start_code.proofs.find_slot.Given as goal

abbrev pub invariant-loop-i : goal.invariant-loop-i
invariant-loop-i l = Finding l.p l.name l.from l.z l.i
