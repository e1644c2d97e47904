-- Document 01, "The endless machine", show: the line, with byte 10, and what it leaves of a buffer. Assumes nothing.
use Rattle.std.specs.Prelude.{ℕ, ◌-◌, ◌≡◌, List, [], ◌∷◌, ◌++◌, leb, length}
use Rattle.words.specs.Words.{pick}
use Rattle.splice.specs.Splice.{splice}
use Rattle.framed.specs.declared.Value.{Value}
use Rattle.framed.specs.Values.{shown}

unfoldable pub line_bytes : List (List ℕ) → List (List ℕ) → Value → List ℕ
line_bytes literals made v = shown literals made v ++ (10 ∷ [])

-- a line of bytes bs at a position of a buffer: its size and the buffer with it, where it is not longer than the space behind the position; else 0, and the buffer as it is
unfoldable pub line_answer : List ℕ → List ℕ → ℕ → ℕ
line_answer bs m at = pick (leb (length bs) (length m - at)) (length bs) 0

unfoldable pub line_output : List ℕ → List ℕ → ℕ → List ℕ
line_output bs m at = pick (leb (length bs) (length m - at)) (splice m at bs) m

pub record WritesLine (bs m : List ℕ) (at r : ℕ) (m' : List ℕ) : Type 0 where
  pub answer : r ≡ line_answer bs m at
  pub output : m' ≡ line_output bs m at
