use Rattle.words.proofs.Laws.{Upto}
use Rattle.program_names.specs.Keys.{other_key}
use Rattle.program_names.proofs.other_keys.Given as goal

abbrev pub invariant-loop-j : goal.invariant-loop-j
invariant-loop-j l = Upto (other_key l.keys l.x) l.n l.j l.ok
