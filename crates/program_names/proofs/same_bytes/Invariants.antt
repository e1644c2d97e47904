use mathlib.Core.Bool.{true}
use Rattle.words.proofs.Laws.{Upto}
use Rattle.program_names.specs.Tests.{same_byte}
use Rattle.program_names.proofs.same_bytes.Given as goal

abbrev pub invariant-loop-i : goal.invariant-loop-i
invariant-loop-i l = Upto (same_byte l.p l.k l.j) 16 l.i true
