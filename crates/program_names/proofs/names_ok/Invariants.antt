use Rattle.program_names.proofs.Keys.{KeyedNames}
use Rattle.program_names.proofs.names_ok.Given as goal

abbrev pub invariant-loop-k : goal.invariant-loop-k
invariant-loop-k l = KeyedNames l.p l.n l.k l.keys l.ok
