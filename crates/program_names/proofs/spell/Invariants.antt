use Rattle.program_names.proofs.Keys.{Spelling}
use Rattle.program_names.proofs.spell.Given as goal

abbrev pub invariant-loop-i : goal.invariant-loop-i
invariant-loop-i l = Spelling l.p l.k l.n l.i l.plain l.key
