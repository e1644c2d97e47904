-- The lines of a text: byte 10 ends one. Assumes nothing.
use Rattle.std.specs.Prelude.{◌≡◌, List, ℕ, ◌<◌, ◌≤◌, max, length, get_or, take, drop, ◌+◌, ◌-◌}

-- the line that begins at `at` ends at `end`: the first byte 10 from there on, or the end of the text
pub record LineEnds (s : List ℕ) (at end : ℕ) : Type 0 where
  pub after : at ≤ end
  pub inside : end ≤ max at (length s)
  pub unbroken : (i : ℕ) → at ≤ i → i < end → get_or s i 0 ≡ 10 → ⊥
  pub broken : end < length s → get_or s end 0 ≡ 10

-- a line begins at the text's first byte, and behind each byte 10 that is not its last
pub record LineBegins (s : List ℕ) (at : ℕ) : Type 0 where
  pub inside : at < length s
  pub behind : (k : ℕ) → at ≡ k + 1 → get_or s k 0 ≡ 10

-- P holds of each line, without its byte 10
pub record EachLine (P : List ℕ → Type 0) (s : List ℕ) : Type 0 where
  pub line : (at end : ℕ) → LineBegins s at → LineEnds s at end → P (take (end - at) (drop at s))
