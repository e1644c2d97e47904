-- Document 01, "A printed run": how many bytes a print has at most. Assumes nothing.
use Rattle.std.specs.Prelude.{List, ℕ, ◌≤◌, length}
use Rattle.framed.specs.Framerun.{framerun}

-- the shows have 4,096, and the last line 44: `output` stands with five digits of steps (six stand with `fuel`), and the totals have three each
abbrev pub longest : ℕ
longest = 4140

abbrev pub LongestPrint : Type 0
LongestPrint = (source : List ℕ) → length (framerun source) ≤ longest
