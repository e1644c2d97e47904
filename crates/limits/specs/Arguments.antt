-- Document 01, the table, numbers 1 to 3: the lengths of the memories, F and T, the length of the source. Assumes nothing.
use Rattle.std.specs.Prelude.{◌&&◌, ℕ, leb, ltb}
use Rattle.framed.specs.Common.{when◌then◌else◌, between}
use Rattle.framed.specs.Meaning.{Lengths, right_lengths}

abbrev pub lengths : ℕ → ℕ → ℕ → ℕ → Lengths
lengths program heap literal text = record { program = program; heap = heap; literal = literal; text = text }

-- 1
unfoldable pub lengths_refusal : Lengths → ℕ
lengths_refusal m = when right_lengths m then 0 else 1

-- 2 and 3, for a source of n bytes
unfoldable pub limits_refusal : ℕ → ℕ → ℕ → ℕ
limits_refusal n F T = when between 3 256 F && leb T 256 then (when ltb 16384 n then 3 else 0) else 2
