-- Document 01, "Tokens and grammar": spaces, and `//` with any bytes up to byte 10 or the end, passed at a position of a source.
-- For every class of bytes `c`. Assumes nothing.
use Rattle.std.specs.Prelude.{◌≡◌, List, ℕ, suc, ◌≤◌, max, length}
use Rattle.framed.specs.Bytes.{Classes}
use Rattle.framed.specs.Tokens.{skip, skip_comment}
use Rattle.source.specs.Positions.{rest, byte, At}
use Rattle.source.specs.Classified.{Classified}

-- a comment that goes on at i ends at j: after byte 10, or where the source ends
pub data LineEnds (s : List ℕ) : ℕ → Type 0 where
  line_feed : {i : ℕ} → byte s i ≡ 10 → LineEnds s (suc i)
  source_end : {i : ℕ} → length s ≤ i → LineEnds s i

pub record CommentEnds (c : Classes) (s : List ℕ) (i j : ℕ) : Type 0 where
  pub begins : i ≤ j
  pub inside : j ≤ max i (length s)
  pub ends : LineEnds s j
  pub gone : skip_comment c (rest s i) ≡ skip c (rest s j)

-- the table of classes, and a position inside the source
pub record CanSkip (t s : List ℕ) (i : ℕ) : Type 0 where
  pub table : Classified t
  pub at : At s i

-- one space or one comment is passed, or nothing is
pub record SkipsOne (c : Classes) (s : List ℕ) (i j : ℕ) : Type 0 where
  pub begins : i ≤ j
  pub inside : j ≤ length s
  pub gone : skip c (rest s i) ≡ skip c (rest s j)
  pub stays : j ≡ i → skip c (rest s i) ≡ rest s i

-- all spaces and comments from i on are passed at j
pub record Skips (c : Classes) (s : List ℕ) (i j : ℕ) : Type 0 where
  pub begins : i ≤ j
  pub gone : skip c (rest s i) ≡ rest s j
