use Rattle.words.proofs.Laws.{Upto}
use Rattle.program_names.specs.Tests.{literal_byte_ok}
use Rattle.program_names.proofs.literal_bytes_ok.Given as goal

abbrev pub invariant-loop-i : goal.invariant-loop-i
invariant-loop-i l = Upto (literal_byte_ok l.p l.l l.k) 64 l.i l.ok
