-- Document 01, "Each token comes back as a part of the source": positions in a source, and the bytes from one on, at one, and between two.
-- Assumes nothing.
use Rattle.std.specs.Prelude.{List, ℕ, ◌-◌, ◌<◌, length, take, drop, get_or}

-- the bytes from a position on
unfoldable pub rest : List ℕ → ℕ → List ℕ
rest s at = drop at s

-- the byte at a position, 0 past the end
unfoldable pub byte : List ℕ → ℕ → ℕ
byte s at = get_or s at 0

-- the bytes from a up to b, without b
unfoldable pub part : List ℕ → ℕ → ℕ → List ℕ
part s a b = take (b - a) (drop a s)

-- a position inside the source
pub record At (s : List ℕ) (i : ℕ) : Type 0 where
  pub inside : i < length s
